-- `answer` meets its contract: a text that is refused (`replies_refused`), or one whose words are searched (`replies_words`). The line of
-- the refusal stands in front of the room by `refused_in_room`; `two_told_in_room` is for the two numbers told where they are put as a
-- line by themselves: so the wrong program `code_and_place_swapped` is refused for its numbers. Assumes nothing.
use lib.Dec.{lit≤}
use Rattle.typed.proofs.WordsRead.{read_within}
use Rattle.printing.proofs.InRoom.{refused_in_room, two_told_in_room}
use Rattle.reply.proofs.Replies.{replies_refused, replies_words}
use Rattle.reply.proofs.answer.Goals as goal

pub slice_bounds-searched-end : goal.slice_bounds-searched-end
slice_bounds-searched-end c = search read_within

pub returns-in-Err : goal.returns-in-Err
returns-in-Err c = search (replies_refused, refused_in_room, two_told_in_room, lit≤)

pub returns-in-Ok : goal.returns-in-Ok
returns-in-Ok c = search replies_words
