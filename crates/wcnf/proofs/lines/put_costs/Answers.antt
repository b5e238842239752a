-- `put_costs` meets its contract: the denials of one device after the other (`costs_more`). Assumes nothing.
use Rattle.printing.proofs.Putting.{puts_nothing, puts_more}
use Rattle.wcnf.proofs.WrittenLines.{costs_none, costs_more}
use Rattle.wcnf.proofs.lines.put_costs.Goals as goal

pub loop-device-init : goal.loop-device-init
loop-device-init c = search (puts_nothing, costs_none)

pub loop-device-preserved : goal.loop-device-preserved
loop-device-preserved c = search (puts_more, costs_more)
