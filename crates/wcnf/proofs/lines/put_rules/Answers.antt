-- `put_rules` meets its contract: one rule after the other (WrittenLines). Assumes nothing.
use Rattle.printing.proofs.Putting.{puts_nothing}
use Rattle.wcnf.proofs.WrittenLines.{rules_none, rule_put}
use Rattle.wcnf.proofs.lines.put_rules.Goals as goal

pub loop-r-init : goal.loop-r-init
loop-r-init c = search (puts_nothing, rules_none)

pub loop-r-preserved : goal.loop-r-preserved
loop-r-preserved c = search rule_put
