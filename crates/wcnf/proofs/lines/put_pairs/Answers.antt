-- `put_pairs` meets its contract: the pairs of one device after the other (`pairs_more`). Assumes nothing.
use Rattle.printing.proofs.Putting.{puts_nothing, puts_more}
use Rattle.wcnf.proofs.WrittenLines.{pairs_none, pairs_more}
use Rattle.wcnf.proofs.lines.put_pairs.Goals as goal

pub loop-device-init : goal.loop-device-init
loop-device-init c = search (puts_nothing, pairs_none)

pub loop-device-preserved : goal.loop-device-preserved
loop-device-preserved c = search (puts_more, pairs_more)
