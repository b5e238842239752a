-- `names_both` meets its contract. The loop's invariant: the codes with this rule's stamp are those seen so far, and no two of them are
-- opposite (`Stamped`). Assumes nothing.
use native.Mathlib.Omega.{arith}
use Rattle.needed.proofs.Stamping.{all_seen, part_opposite, part_seen}
use Rattle.needed.proofs.leave.names_both.Goals as goal

pub returns-then-stamps-opposite : goal.returns-then-stamps-opposite
returns-then-stamps-opposite c = search part_opposite

pub loop-code-preserved : goal.loop-code-preserved
loop-code-preserved c = part_seen c.requires c.loop-code.invariant c.loop-code-test.true c.opposite.ensures c.if-stamps-opposite.false

pub returns : goal.returns
returns c = all_seen c.loop-code.invariant (omega arith)
