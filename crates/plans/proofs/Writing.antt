-- A plan written into a room: for callers, where it has place (`write_fits`); where it has none (`write_short`); mark by mark
-- (`write_place`, `write_more`, `write_end`). Assumes nothing.
use mathlib.Core.Path.{◌≡◌, refl, ◌∙◌, ap}
use mathlib.Core.List.{List}
use Prim.Native.Nat.{ℕ, ◌+◌, ◌≤◌, ◌<◌}
use native.Mathlib.Omega.{arith}
use lib.ListN.{length, get_or, take, set}
use lib.Seq.{length-take-le, take_all}
use borrow.Author.Tests.{le-leb, lt-leb}
use Rattle.lists.specs.Lists.{in_front}
use Rattle.lists.proofs.InFront.{room_as_long, front_grows}
use Rattle.hall.specs.Hall.{Plan}
use Rattle.plans.specs.Runs.{written_in}

pub write_fits : (plan : Plan) (room : List ℕ) → length plan ≤ length room → written_in plan room ≡ in_front plan room
unfolding written_in
write_fits plan room l = rw (le-leb (length plan) (length room) l) refl

pub write_short : (plan : Plan) (room : List ℕ) → length room < length plan → room ≡ written_in plan room
unfolding written_in
write_short plan room l = simp (lt-leb (length plan) (length room) l)

-- its first i marks stand in front of the room
module _ (plan : Plan) (before room : List ℕ) (i : ℕ) (fits : length plan ≤ length before) (within : i ≤ length plan) (inv : room ≡ in_front (take i plan) before) where
  pub write_place : i < length plan → i < length room
  write_place l = omega (arith, ap length inv, room_as_long (take i plan) before (omega (arith, length-take-le i plan within)))

  pub write_more : i < length plan → set room i (get_or plan i 0) ≡ in_front (take (i + 1) plan) before
  write_more l = rw inv (front_grows plan before i 0 l fits)

  pub write_end : length plan ≤ i → room ≡ written_in plan before
  unfolding written_in
  write_end l = simp (le-leb (length plan) (length before) fits) (inv ∙ ap (λ (front : List ℕ). in_front front before) (take_all i plan l))
