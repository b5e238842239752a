-- `holds_one` meets its contract: what the entries left say is what all say (`Untested`). Assumes nothing.
use mathlib.Core.Path.{sym, ◌∙◌}
use Rattle.walk.proofs.Unmet.{rule_held, tested_one, rule_unheld}
use Rattle.walk.proofs.rules.holds_one.Goals as goal

pub returns-then-holds : goal.returns-then-holds
returns-then-holds c = rule_held c.loop-code.invariant c.loop-code-test.true (sym c.holds.ensures ∙ c.if-holds.true)

pub loop-code-preserved : goal.loop-code-preserved
loop-code-preserved c = tested_one c.loop-code.invariant c.loop-code-test.true (sym c.holds.ensures ∙ c.if-holds.false)

pub returns : goal.returns
returns c = search rule_unheld
