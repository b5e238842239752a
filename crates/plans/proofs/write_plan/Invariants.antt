use Prim.Native.Nat.{◌≤◌}
use mathlib.Core.Path.{◌≡◌}
use lib.ListN.{length, take}
use Rattle.lists.specs.Lists.{in_front}
use Rattle.plans.proofs.write_plan.Given as goal

-- Invariant: the plan has place, and its marks before place i stand in front of the room.
abbrev pub invariant-loop-i : goal.invariant-loop-i
invariant-loop-i l = (length l.plan ≤ length l.initial.room) × (l.room ≡ in_front (take l.i l.plan) l.initial.room)
