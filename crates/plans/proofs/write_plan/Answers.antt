-- `write_plan` meets its contract: mark by mark where the plan has place, else the room stays as it was (Writing). Assumes nothing.
use borrow.Author.Rules.{rules}
use Rattle.plans.proofs.Writing.{write_short, write_place, write_more, write_end}
use Rattle.plans.proofs.write_plan.Goals as goal

pub bounds-room-i : goal.bounds-room-i
bounds-room-i c = search write_place

pub loop-i-preserved : goal.loop-i-preserved
loop-i-preserved c = (search rules, search write_more)

pub returns-after-loop-i : goal.returns-after-loop-i
returns-after-loop-i c = search write_end

pub returns-else-n-room : goal.returns-else-n-room
returns-else-n-room c = search write_short
