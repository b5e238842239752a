-- `hand_over` meets its contract: a text that is refused (`hands_mistake`), or one whose sheet is handed over (`hands_words`). The line of
-- the refusal stands in front of the room by `refused_in_room`; `two_told_in_room` is for the two numbers told where they are put as a
-- line by themselves: so the wrong program `code_and_place_swapped` is refused for its numbers. Assumes nothing.
use lib.Dec.{lit≤}
use Rattle.typed.proofs.WordsRead.{read_within}
use Rattle.printing.proofs.InRoom.{refused_in_room, two_told_in_room}
use Rattle.handing.proofs.HandedText.{hands_mistake, hands_words}
use Rattle.handing.proofs.hand_over.Goals as goal

pub slice_bounds-hand_sheet-end : goal.slice_bounds-hand_sheet-end
slice_bounds-hand_sheet-end c = search read_within

pub returns-in-Err : goal.returns-in-Err
returns-in-Err c = search (hands_mistake, refused_in_room, two_told_in_room, lit≤)

pub returns-in-Ok : goal.returns-in-Ok
returns-in-Ok c = search hands_words
