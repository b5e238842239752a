-- `put_numbers` meets its contract: each number behind a blank, one after the other (Putting). Assumes nothing.
use Rattle.printing.proofs.Putting.{puts_nothing, puts_more, numbers_none, numbers_more}
use Rattle.printing.proofs.Page.put_numbers.Goals as goal

pub loop-number-init : goal.loop-number-init
loop-number-init c = search (puts_nothing, numbers_none)

pub loop-number-preserved : goal.loop-number-preserved
loop-number-preserved c = search (puts_more, numbers_more)
