-- Demand 3: the walk opens at least 1 node, and at most 1 + k + ... + k^d.
--
-- The argument: where a number of a plan falls with every child, a walk from p opens at most the power sum up to that number
-- (`walk_opens`), since a node has at most k children. Two numbers fall: the free devices and the unmet rules; d is the
-- smaller. The claims: `opens_one`, `opens_most`. Assumes nothing.
use mathlib.Core.Path.{◌≡◌, refl}
use mathlib.Core.Bool.{Bool, true, false, cond}
use mathlib.Core.List.{List, [], ◌∷◌}
use Prim.Native.Nat.{ℕ, zero, suc, ◌*◌, ◌-◌, ◌≤◌, ◌<◌, zero-le, min, max}
use native.Mathlib.Nat.{le_trans, mul-le-mul_right, suc-mul, pow-succ', pow-zero}
use native.Mathlib.Omega.{arith}
use lib.ListN.{length}
use Rattle.lists.specs.Lists.{In, first, later}
use Rattle.hall.specs.Hall.{Entry, Rule, Hall, Plan, is_free, hold, meets_rule, meets_all, first_unmet}
use Rattle.hall.specs.Order.{held_of}
use Rattle.hall.specs.Walk.{Best, none_yet, Walker, shut, still, after, entry_by, through, opening, node_by, node, walk, walk_from, start, walk_hall}
use Rattle.hall.specs.Bound.{widest, power_sum, bound_of}
use Rattle.lists.proofs.Cases.{Tri, tri, below, level, above}
use Rattle.hall.proofs.Plans.{hold_held, hold_length, held_all, start_plan}
use Rattle.hall.proofs.Unmet.{unmet, unmet_rules, unmet_falls}

-- ── the power sum ──
pub horner : (k d : ℕ) → power_sum k (suc d) ≡ suc (k * power_sum k d)
unfolding power_sum
horner k zero = rw (pow-succ' k 0, pow-zero k) (omega arith)
horner k (suc d) = omega (arith, horner k d, pow-succ' k (suc d))

powers_mono : (k : ℕ) {i : ℕ} (d : ℕ) → i ≤ d → power_sum k i ≤ power_sum k d
unfolding power_sum
powers_mono k {i} zero h = let e : i ≡ 0 = omega arith in rw e (omega arith)
powers_mono k {i} (suc d) h = go (tri i (suc d)) (powers_mono k {i = i} d)
  where
    go : Tri i (suc d) → (i ≤ d → power_sum k i ≤ power_sum k d) → power_sum k i ≤ power_sum k (suc d)
    go (below u) ih = omega (arith, ih (omega arith))
    go (level u) ih = rw u (omega arith)
    go (above u) ih = absurd (omega arith)

powers_one : (k d : ℕ) → 1 ≤ power_sum k d
unfolding power_sum
powers_one k zero = omega arith
powers_one k (suc d) = omega (arith, powers_one k d)

-- ── the children of one node ──
first_wide : (p : Plan) (rs : List Rule) → length (first_unmet p rs) ≤ widest rs
unfolding first_unmet widest
first_wide p [] = zero-le
first_wide p (r ∷ rs) = go (meets_rule p r) (first_wide p rs)
  where
    go : (b : Bool) → length (first_unmet p rs) ≤ widest rs → length (cond b (first_unmet p rs) r) ≤ max (length r) (widest rs)
    go true ih = omega arith
    go false ih = omega arith

-- where each child opens at most x nodes
through_opens : (c : Walker) (p : Plan) (r : Rule) (x : ℕ) → ((e : Entry) (b : Best) → In e r → is_free p e ≡ true → (c (hold p e) b).opened ≤ x) → (b : Best) → (through c p r b).opened ≤ length r * x
unfolding through entry_by after still
through_opens c p [] x k b = zero-le
through_opens c p (e ∷ es) x k b = go (is_free p e) refl (through_opens c p es x (λ d b i f. k d b (later i) f))
  where
    go : (t : Bool) → is_free p e ≡ t → ((b : Best) → (through c p es b).opened ≤ length es * x) → (entry_by t c p e (through c p es) b).opened ≤ suc (length es) * x
    go true u ih = omega (arith, suc-mul (length es) x, k e b first u, ih (c (hold p e) b).best)
    go false u ih = omega (arith, suc-mul (length es) x, ih b)

-- ── a number that falls with each child ──
module _ (h : Hall) (μ : Plan → ℕ) (falls : (p : Plan) (e : Entry) → In e (first_unmet p h.rules) → is_free p e ≡ true → μ (hold p e) < μ p) where
  node_most : (c : Walker) (p : Plan) → ((e : Entry) (b : Best) → (c (hold p e) b).opened ≤ power_sum (widest h.rules) (μ (hold p e)))
      → (b : Best) → (node c h p b).opened ≤ power_sum (widest h.rules) (μ p)
  unfolding node node_by opening still
  node_most c p k b = go (meets_all p h.rules) (shut h p b)
    where
      w : ℕ
      w = widest h.rules

      r : Rule
      r = first_unmet p h.rules

      deep : (d : ℕ) → μ p ≡ d → suc (through c p r b).opened ≤ power_sum w d
      deep zero u = omega (arith, powers_one w 0, through_opens c p r 0 (λ e b i f. absurd (omega (arith, falls p e i f))) b)
      deep (suc d) u = omega (
        arith,
        horner w d,
        mul-le-mul_right (power_sum w d) (first_wide p h.rules),
        through_opens c p r (power_sum w d) (λ e b i f. le_trans (k e b) (powers_mono w d (omega (arith, falls p e i f)))) b,
      )

      go : (s t : Bool) → suc (node_by s t c h p b).opened ≤ power_sum w (μ p)
      go true t = powers_one _ _
      go false true = powers_one _ _
      go false false = deep (μ p) refl

  walk_opens : (n : ℕ) (p : Plan) (b : Best) → (walk h n p b).opened ≤ power_sum (widest h.rules) (μ p)
  unfolding walk still
  walk_opens zero p b = node_most _ p (λ e b. zero-le) b
  walk_opens (suc n) p b = node_most _ p (λ e b. walk_opens n (hold p e) b) b

-- ── the claims ──
-- a node opens itself at least
pub node_one : (c : Walker) (h : Hall) (p : Plan) (b : Best) → 1 ≤ (node c h p b).opened
unfolding node opening
node_one c h p b = omega arith

pub opens_one : (h : Hall) → 1 ≤ (walk_hall h).opened
unfolding walk_hall walk_from walk
opens_one h = go (length (start h) - held_of (start h))
  where
    go : (n : ℕ) → 1 ≤ (walk h n (start h) none_yet).opened
    go zero = node_one _ h _ _
    go (suc n) = node_one _ h _ _

pub opens_most : (h : Hall) → (walk_hall h).opened ≤ bound_of h
unfolding walk_hall walk_from
opens_most h = go (tri n m)
  where
    n : ℕ
    n = length h.costs

    m : ℕ
    m = length h.rules

    free : ℕ
    free = length (start h) - held_of (start h)

    by_devices : (walk h free (start h) none_yet).opened ≤ power_sum (widest h.rules) n
    by_devices =
        let few : free ≤ n = omega (arith, (start_plan h).size) in
        le_trans (walk_opens h (λ p. length p - held_of p) (λ p e i f. omega (arith, hold_held p e f, hold_length p e, held_all (hold p e))) free (start h) none_yet) (powers_mono (widest h.rules) n few)

    by_rules : (walk h free (start h) none_yet).opened ≤ power_sum (widest h.rules) m
    by_rules = le_trans (walk_opens h (λ p. unmet p h.rules) (λ p e i f. unmet_falls p e h.rules i f) free (start h) none_yet) (powers_mono (widest h.rules) m (unmet_rules (start h) h.rules))

    go : Tri n m → (walk h free (start h) none_yet).opened ≤ power_sum (widest h.rules) (min n m)
    go (below u) = let e : min n m ≡ n = omega arith in rw e by_devices
    go (level u) = let e : min n m ≡ n = omega arith in rw e by_devices
    go (above u) = let e : min n m ≡ m = omega arith in rw e by_rules
