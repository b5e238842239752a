-- `put_in_order` meets its contract, plan by plan (Putting). Assumes nothing.
use native.Mathlib.Omega.{arith}
use Rattle.plans.proofs.Putting.{puts_short, part_start, part_end, part_fewer, part_place, part_more}
use Rattle.plans.proofs.put_in_order.Goals as goal

pub returns-then-room-run : goal.returns-then-room-run
returns-then-room-run c = search puts_short

pub loop-next-init : goal.loop-next-init
loop-next-init c = search part_start

pub overflow_add-at : goal.overflow_add-at
overflow_add-at c = omega (arith, part_place _ _ _ _ _ _ c.loop-next.invariant _ c.in-Some.ensures)

pub loop-next-smaller : goal.loop-next-smaller
loop-next-smaller c = search (part_fewer, c.in-Some.ensures)

pub loop-next-preserved : goal.loop-next-preserved
loop-next-preserved c = search (part_more, c.in-Some.ensures)

pub returns : goal.returns
returns c = search (part_end, c.in_default.ensures)
