-- The exact total: a plan's cost and held number are the sums over its held devices, as numbers.
--
-- In order: the two sums (`cost_sum`, `held_sum`); how large a device's cost can be (`cost_at_most`), and a plan's (`cost_most`,
-- `cost_in_range`). A whole answer at the largest total, 200 devices at 1,000,000,000, is Largest. Assumes nothing.
use mathlib.Core.Path.{◌≡◌, refl, ◌∙◌}
use mathlib.Core.List.{List, [], ◌∷◌}
use Prim.Native.Nat.{ℕ, zero, suc, ◌+◌, ◌*◌, ◌≤◌, zero-le}
use native.Mathlib.Nat.{suc-mul, mul-le-mul_right, le_trans}
use native.Mathlib.Omega.{arith}
use lib.ListN.{length, get_or, drop}
use Rattle.hall.specs.Hall.{Hall, Plan, PlanOf}
use Rattle.hall.specs.Order.{if_held, cost_of, held_of, held_by, held_from, held_entries, sum_of}
use Rattle.lists.specs.Lists.{Each}
use Rattle.hall.specs.Ranges.{HallInRange}

-- ── the sums ──
cost_none : (cs : List ℕ) → cost_of cs [] ≡ 0
unfolding cost_of
cost_none [] = refl
cost_none (c ∷ cs) = refl

-- the cost of a plan whose first mark is device v's
cost_at : (cs : List ℕ) (v x : ℕ) (p : Plan) → cost_of (drop v cs) (x ∷ p) ≡ if_held (get_or cs v 0) x + cost_of (drop (suc v) cs) p
unfolding cost_of if_held
cost_at [] zero zero p = refl
cost_at [] zero (suc x) p = refl
cost_at [] (suc v) zero p = refl
cost_at [] (suc v) (suc x) p = refl
cost_at (c ∷ cs) zero x p = refl
cost_at (c ∷ cs) (suc v) x p = cost_at cs v x p

costs_from : (cs : List ℕ) (v : ℕ) (p : Plan) → ((i : ℕ) → get_or p i 0 ≤ 2) → cost_of (drop v cs) p ≡ sum_of cs (held_from v p)
unfolding held_from sum_of if_held
costs_from cs v [] m = cost_none (drop v cs)
costs_from cs v (x ∷ p) m = cost_at cs v x p ∙ go x (m 0) (costs_from cs (suc v) p (λ i. m (suc i)))
  where
    go : (x : ℕ) → x ≤ 2 → cost_of (drop (suc v) cs) p ≡ sum_of cs (held_from (suc v) p) → if_held (get_or cs v 0) x + cost_of (drop (suc v) cs) p ≡ sum_of cs (held_by x v (held_from (suc v) p))
    go zero l ih = omega arith
    go (suc zero) l ih = omega arith
    go (suc (suc zero)) l ih = omega arith
    go (suc (suc (suc x))) l ih = absurd (omega arith)

held_from_lem : (v : ℕ) (p : Plan) → ((i : ℕ) → get_or p i 0 ≤ 2) → held_of p ≡ length (held_from v p)
unfolding held_from held_of if_held
held_from_lem v [] m = refl
held_from_lem v (x ∷ p) m = go x (m 0) (held_from_lem (suc v) p (λ i. m (suc i)))
  where
    go : (x : ℕ) → x ≤ 2 → held_of p ≡ length (held_from (suc v) p) → if_held 1 x + held_of p ≡ length (held_by x v (held_from (suc v) p))
    go zero l ih = omega arith
    go (suc zero) l ih = omega arith
    go (suc (suc zero)) l ih = omega arith
    go (suc (suc (suc x))) l ih = absurd (omega arith)

pub cost_sum : {h : Hall} (p : Plan) → PlanOf h p → cost_of h.costs p ≡ sum_of h.costs (held_entries p)
cost_sum {h} p k = costs_from h.costs 0 p k.marks

pub held_sum : {h : Hall} (p : Plan) → PlanOf h p → held_of p ≡ length (held_entries p)
held_sum p k = held_from_lem 0 p k.marks

-- ── how large a cost can be ──
pub cost_at_most : (most : ℕ) (costs : List ℕ) → Each (λ c. c ≤ most) costs → (d : ℕ) → get_or costs d 0 ≤ most
cost_at_most most [] k d = zero-le
cost_at_most most (c ∷ costs) k zero = k.0
cost_at_most most (c ∷ costs) k (suc d) = cost_at_most most costs k.1 d

pub cost_most : (most : ℕ) (cs : List ℕ) → Each (λ c. c ≤ most) cs → (p : Plan) → cost_of cs p ≤ length cs * most
unfolding cost_of if_held
cost_most most [] a p = zero-le
cost_most most (c ∷ cs) a [] = zero-le
cost_most most (c ∷ cs) a (zero ∷ p) = omega (arith, suc-mul (length cs) most, cost_most most cs a.1 p)
cost_most most (c ∷ cs) a (suc x ∷ p) = let b = a.0 in omega (arith, suc-mul (length cs) most, cost_most most cs a.1 p)

pub cost_in_range : (h : Hall) → HallInRange h → (p : Plan) → cost_of h.costs p ≤ 200000000000
cost_in_range h r p = le_trans (cost_most 1000000000 h.costs r.cheap p) (mul-le-mul_right 1000000000 r.devices)
