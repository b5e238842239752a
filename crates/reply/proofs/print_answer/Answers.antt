-- `print_answer` meets its contract: what was found is put, or the line of its refusal (Prints). `told_front` is for the numbers told where
-- they are put as a line by themselves: so the wrong program `rule_not_printed` is refused for its numbers. Assumes nothing.
use Rattle.refusals.proofs.ToldNumbers.{told_front}
use Rattle.reply.proofs.Prints.{prints_found, prints_refused}
use Rattle.reply.proofs.print_answer.Goals as goal
use Rattle.reply.proofs.print_answer.Goals.{in-Ok, in-Err}

pub returns : goal.returns
returns c = elim c.match-answer.branch [ in-Ok w ↦ rw w.page-is (search prints_found) | in-Err w ↦ rw w.page-is (search (prints_refused, told_front)) ]
