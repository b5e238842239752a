-- `put_plans` meets its contract: the line of each plan, one after the other (Lines). Assumes nothing.
use Rattle.printing.proofs.Putting.{puts_nothing, puts_more}
use Rattle.foreman.proofs.Lines.{lines_none, lines_more}
use Rattle.foreman.proofs.holds.put_plans.Goals as goal

pub loop-i-init : goal.loop-i-init
loop-i-init c = search (puts_nothing, lines_none)

pub loop-i-preserved : goal.loop-i-preserved
loop-i-preserved c = search (puts_more, lines_more)
