-- `move_down` meets its contract: to store the entries' codes further down is to copy them (Moving). Assumes nothing.
use Rattle.needed.proofs.Moving.{moves}
use Rattle.needed.proofs.leave.move_down.Goals as goal

pub returns : goal.returns
returns c = rw c.copy_within.ensures.after (moves c.requires)
