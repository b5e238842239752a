-- Sums of costs along a walk.
--
-- In order: a plan that holds nothing costs nothing (`start_cost`); holding a free device adds its cost (`hold_cost`).
-- These are laws of `hall`'s definitions that `hall` itself does not need. Assumes nothing.
use mathlib.Core.Path.{◌≡◌, refl}
use mathlib.Core.Bool.{true}
use mathlib.Core.List.{List, [], ◌∷◌}
use Prim.Native.Nat.{ℕ, zero, suc, ◌+◌}
use native.Mathlib.Omega.{arith}
use lib.ListN.{length, get_or, set, replicate}
use borrow.Author.Tests.{eqb-true}
use Rattle.hall.specs.Hall.{Entry, at1, at0, device, Plan, is_free, hold}
use Rattle.hall.specs.Order.{if_held, cost_of}

pub start_cost : (costs : List ℕ) (n : ℕ) → cost_of costs (replicate n 0) ≡ 0
unfolding cost_of if_held
start_cost [] n = refl
start_cost (c ∷ costs) zero = refl
start_cost (c ∷ costs) (suc n) = omega (arith, start_cost costs n)

set_cost : (costs p : List ℕ) (i v : ℕ) → length p ≡ length costs → get_or p i 1 ≡ 0 → cost_of costs (set p i (suc v)) ≡ cost_of costs p + get_or costs i 0
unfolding cost_of if_held
set_cost [] [] i v l h = absurd (omega arith)
set_cost [] (x ∷ p) i v l h = absurd (omega arith)
set_cost (c ∷ costs) [] i v l h = absurd (omega arith)
set_cost (c ∷ costs) (x ∷ p) zero v l h = rw h (omega arith)
set_cost (c ∷ costs) (x ∷ p) (suc i) v l h = omega (arith, set_cost costs p i v (omega arith) h)

pub hold_cost : (costs : List ℕ) (p : Plan) (e : Entry) → length p ≡ length costs → is_free p e ≡ true → cost_of costs (hold p e) ≡ cost_of costs p + get_or costs (device e) 0
unfolding is_free hold
hold_cost costs p (at1 v) l f = set_cost costs p v 0 l (eqb-true _ _ f)
hold_cost costs p (at0 v) l f = set_cost costs p v 1 l (eqb-true _ _ f)
