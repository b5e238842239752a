use lib.ListN.{length}
use Rattle.plans.proofs.Putting.{left, Partway}
use Rattle.plans.proofs.put_in_order.Given as goal

-- Invariant: putting the plans that are left behind what is written leaves what putting all of them leaves.
abbrev pub invariant-loop-next : goal.invariant-loop-next
invariant-loop-next l = Partway l.n l.run l.initial.room l.last l.at l.room

-- Measure: the plans left.
abbrev pub decreases-loop-next : goal.decreases-loop-next
decreases-loop-next l = length (left l.n l.run l.last)
