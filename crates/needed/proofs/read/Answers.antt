-- `read` meets its contract: of a hall the rules that every plan meets are left out (Needing). Assumes nothing.
use Rattle.needed.proofs.Needing.{reads_leavable, reads_hall}
use Rattle.needed.proofs.read.Goals as goal

pub leave_out-requires : goal.leave_out-requires
leave_out-requires c = let d = c.in_ok-size.ensures in search reads_leavable

pub returns : goal.returns
returns c = let d = c.in_ok-size.ensures in search reads_hall
