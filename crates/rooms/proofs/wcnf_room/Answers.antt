-- `wcnf_room` meets its contract, by computation: of a wrong room of so many bytes a search would say only that it stopped at its limit. Assumes
-- nothing.
use mathlib.Core.Path.{refl}
use Rattle.rooms.proofs.wcnf_room.Goals as goal

pub returns : goal.returns
returns c = refl
