-- `put_number` meets its contract: what stands in front, then the digits (`number_puts`). Assumes nothing.
use Rattle.printing.proofs.Putting.{number_puts}
use Rattle.printing.proofs.Page.put_number.Goals as goal

pub returns : goal.returns
returns c = search number_puts
