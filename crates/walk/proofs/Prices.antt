-- The order of prices is that of a dictionary over their numbers.
--
-- In order: two lists by how their first numbers compare (`less_by`), by how two prices in front compare (`less_prices`); steps 1 and 2 and
-- the tests of the ties by how a price compares with the best's (`better_is`, `closed_is`, `lower_is`, `equal_is`). Assumes nothing.
use mathlib.Core.Path.{◌≡◌, refl, sym, ◌∙◌, ap}
use mathlib.Core.Bool.{Bool, true, false, cond, ◌||◌, ◌&&◌}
use mathlib.Core.List.{List, [], ◌∷◌}
use Prim.Native.Nat.{ℕ, ◌+◌}
use native.Mathlib.Omega.{arith}
use lib.Dec.{eqb, ltb}
use Rattle.std.proofs.Common.{nat_cmp, Option, Some, None}
use Rattle.std.proofs.lemmas.Bool.Decides.{nat_tests}
use Rattle.std.specs.declared.cmp.Ordering.{Ordering}
use Rattle.std.specs.declared.cmp.Ordering.TheVariants.{Less, Equal, Greater}
use Rattle.std.specs.Ordering.{ordering_then, partial_ordering_then, is_some_and, is_lt, is_le, is_eq}
use Rattle.std.specs.Cmp.{Some-then}
use Rattle.hall.specs.Order.{less}
use Rattle.walk.specs.declared.kept.Price.{Price}
use Rattle.walk.specs.Best.{compared, is_better, is_closed}
use Rattle.walk.specs.Kept.{is_lower, is_equal}

-- which comes before, where the fronts compare so
abbrev pub decided : Ordering → Bool → Bool
decided Less rest = true
decided Equal rest = rest
decided Greater rest = false

less_by : (x y : ℕ) (a b : List ℕ) → less (x ∷ a) (y ∷ b) ≡ decided (nat_cmp x y) (less a b)
unfolding less
less_by x y a b = go (ltb x y) (eqb x y)
  where
    go : (t u : Bool) → (t || (u && less a b)) ≡ decided (cond t Less (cond u Equal Greater)) (less a b)
    go true u = refl
    go false true = refl
    go false false = refl

less_prices : (x y k m : ℕ) (a b : List ℕ) → less (x ∷ k ∷ a) (y ∷ m ∷ b) ≡ decided (ordering_then (nat_cmp x y) (nat_cmp k m)) (less a b)
less_prices x y k m a b = less_by x y _ _ ∙ ap (decided (nat_cmp x y)) (less_by k m a b) ∙ go (nat_cmp x y)
  where
    go : (o : Ordering) → decided o (decided (nat_cmp k m) (less a b)) ≡ decided (ordering_then o (nat_cmp k m)) (less a b)
    go Less = refl
    go Equal = refl
    go Greater = refl

-- ── step 1 and the ties ──
pub better_is : (best : Option Price) (best_plan p : List ℕ) (price : Price) → is_better best best_plan p price ≡ decided (compared best price) (less p best_plan)
better_is None best_plan p price = refl
better_is (Some least) best_plan p price = less_prices price.cost least.cost price.held least.held p best_plan

pub lower_is : (best : Option Price) (price : Price) → is_lower best price ≡ is_lt (compared best price)
unfolding less
lower_is None price = refl
lower_is (Some least) price = less_prices price.cost least.cost price.held least.held [] [] ∙ go (compared (Some least) price)
  where
    go : (o : Ordering) → decided o false ≡ is_lt o
    go Less = refl
    go Equal = refl
    go Greater = refl

equal_prices : (x y k m : ℕ) → (eqb x y && eqb k m) ≡ is_eq (ordering_then (nat_cmp x y) (nat_cmp k m))
equal_prices x y k m = grind (arith, nat_tests)

pub equal_is : (best : Option Price) (price : Price) → is_equal best price ≡ is_eq (compared best price)
equal_is None price = refl
equal_is (Some least) price = equal_prices price.cost least.cost price.held least.held

-- ── step 2: `<=` goes by `partial_cmp` ──
last : (k m : ℕ) → is_le (nat_cmp k m) ≡ less (k ∷ []) ((m + 1) ∷ [])
unfolding less
last k m = grind (arith, nat_tests)

at_most : (x y k m : ℕ) → is_le (ordering_then (nat_cmp x y) (nat_cmp k m)) ≡ less (x ∷ k ∷ []) (y ∷ (m + 1) ∷ [])
at_most x y k m = go (nat_cmp x y) ∙ ap (decided (nat_cmp x y)) (last k m) ∙ sym (less_by x y _ _)
  where
    go : (o : Ordering) → is_le (ordering_then o (nat_cmp k m)) ≡ decided o (is_le (nat_cmp k m))
    go Less = refl
    go Equal = refl
    go Greater = refl

pub closed_is : (least price : Price) → is_some_and is_le (partial_ordering_then (Some (nat_cmp least.cost price.cost)) (Some (nat_cmp least.held price.held))) ≡ is_closed (Some least) price
closed_is least price = ap (is_some_and is_le) (Some-then (nat_cmp least.cost price.cost) (nat_cmp least.held price.held)) ∙ at_most least.cost price.cost least.held price.held
