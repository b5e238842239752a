-- `ties_room` meets its contract, by computation, as `wcnf_room` does and for the same reason. Assumes nothing.
use mathlib.Core.Path.{refl}
use Rattle.rooms.proofs.ties_room.Goals as goal

pub returns : goal.returns
returns c = refl
