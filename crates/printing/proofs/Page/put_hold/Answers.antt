-- `put_hold` meets its contract: the word, the entries, the end of the line (`puts_then`). Assumes nothing.
use Rattle.printing.proofs.Putting.{puts_then}
use Rattle.printing.proofs.Page.put_hold.Goals as goal

pub returns : goal.returns
returns c = search puts_then
