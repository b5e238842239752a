-- Numbers in front of a lent array.
--
-- In order: what a caller of `tell` has in front (`told_front`), that it is short (`told_short`), and that the array is as long as it was
-- (`told_long`). Assumes nothing.
use mathlib.Core.Path.{◌≡◌, ◌∙◌, ap}
use mathlib.Core.List.{List}
use Prim.Native.Nat.{ℕ, ◌-◌, ◌≤◌}
use native.Mathlib.Omega.{arith}
use lib.ListN.{length, take}
use Rattle.lists.proofs.InFront.{room_as_long, front_taken}
use Rattle.refusals.specs.Contract.{Tells}

module _ (told before : List ℕ) (r : ℕ) (after : List ℕ) (t : Tells told before r after) where
  pub told_front : take (r - 0) after ≡ told
  told_front = front_taken told before after r t.says t.room

  pub told_short : length (take (r - 0) after) ≤ 4
  told_short = let few = t.few in omega (arith, ap length told_front, t.says)

  pub told_long : 3 ≤ length before → length after ≡ length before
  told_long h = let few = t.few in ap length t.room ∙ room_as_long told before (omega (arith, t.says))
