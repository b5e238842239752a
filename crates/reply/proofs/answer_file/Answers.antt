-- `answer_file` meets its contract: a file that is refused (`replies_file_refused`), or one whose words are searched (`replies_file_words`).
-- The line of the refusal stands in front of the room by `refused_in_room`; `told_in_room` is for the numbers told where they are put as a
-- line by themselves: so the wrong program `clause_not_printed` is refused for its numbers. Assumes nothing.
use Prim.Native.Nat.{◌≤◌}
use lib.Dec.{lit≤}
use lib.ListN.{length}
use Rattle.printing.proofs.InRoom.{refused_in_room, told_in_room}
use Rattle.reply.proofs.RepliesFile.{file_within, replies_file_refused, replies_file_words}
use borrow.Author.Rules.{rules}
use Rattle.reply.proofs.answer_file.Goals as goal

pub slice_bounds-searched-end : goal.slice_bounds-searched-end
slice_bounds-searched-end c =
    let w : c.in-Ok.length ≤ length c.read.new.room = search file_within in
    search rules

pub returns-in-Err : goal.returns-in-Err
returns-in-Err c = search (replies_file_refused, refused_in_room, told_in_room, lit≤)

pub returns-in-Ok : goal.returns-in-Ok
returns-in-Ok c = search replies_file_words
