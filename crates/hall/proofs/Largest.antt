-- The largest total, 200 devices at 1,000,000,000, each held by a rule of its own: the whole answer, from the demands alone.
--
-- The argument: the hall is within the ranges; a plan that meets its rules holds every device at 1 (`all_held`), so that plan is
-- the least one; no device is written twice, so the walk opens 1 + 1 + .. + 1 nodes. The claim: `largest_answer`. Assumes nothing.
use mathlib.Core.Path.{◌≡◌, refl, sym, ◌∙◌, subst}
use mathlib.Core.Bool.{true}
use mathlib.Core.List.{List, [], ◌∷◌, ◌++◌}
use Prim.Native.Nat.{ℕ, zero, suc, ◌≤◌, ◌<◌, zero-le}
use native.Mathlib.Omega.{arith}
use lib.ListN.{length, get_or, replicate, length-replicate, get_or-replicate, length-append}
use lib.Seq.{ext_get_or}
use borrow.Author.Tests.{eqb-true}
use Rattle.hall.specs.Hall.{at1, Rule, Plan, holds, meets_rule, meets_all}
use Rattle.hall.specs.Order.{held_from, sum_of, MeetsSheet, LeastPlan}
use Rattle.lists.specs.Lists.{Each, first}
use Rattle.hall.specs.Ranges.{RuleInRange, HallInRange, words_of, rule_words, words}
use Rattle.hall.specs.Walk.{walk_hall}
use Rattle.hall.specs.Bound.{entries, absent, once, widest, power_sum, EqualityCase, Bounded}
use Rattle.hall.specs.Answer.{least, answer}
use Rattle.hall.specs.Table.{singles, largest}
use Rattle.lists.proofs.Cases.{and_both, Tri, below, level, above, tri}
use Rattle.lists.proofs.Each.{each_append, each_replicate}
use Rattle.hall.proofs.Order.{better_irreflexive}
use Rattle.hall.proofs.Rules.{held_meets, single_held}
use Rattle.hall.proofs.Satisfied.{least_exact}
use Rattle.hall.proofs.Equality.{opens_exactly, opens_bounded}
use Rattle.hall.proofs.Answers.{answered_only}

-- what holds of each rule of one entry below n holds of the first m of them
singles_each : (P : Rule → Type 0) (n m : ℕ) → m ≤ n → ((v : ℕ) → v < n → P (at1 v ∷ [])) → Each P (singles m)
unfolding singles
singles_each P n zero l p = tt
singles_each P n (suc m) l p = each_append P (singles m) _ (singles_each P n m (omega arith) p) (p m l, tt)

singles_count : (n : ℕ) → length (singles n) ≡ n
unfolding singles
singles_count zero = refl
singles_count (suc n) = omega (arith, length-append (singles n) ((at1 n ∷ []) ∷ []), singles_count n)

in_range : HallInRange largest
in_range = record {
  devices = omega (arith, length-replicate {A = ℕ} 200 1000000000);
  cheap = each_replicate (λ c. c ≤ 1000000000) 200 1000000000 (omega arith);
  count = omega (arith, singles_count 200);
  good = singles_each (RuleInRange 200) 200 200 (omega arith) (λ v l. record { width = omega arith; named = (l, tt) });
}

equal : EqualityCase largest
unfolding once absent entries singles widest
equal = record { apart = refl; wide = singles_each (λ r. length r ≡ widest (singles 200)) 200 200 (omega arith) (λ v l. refl); cost = 1000000000; level = refl }

-- a plan that meets every rule holds every device at 1
meets_append : (q : Plan) (rs : List Rule) (r : Rule) → meets_all q (rs ++ (r ∷ [])) ≡ true → (meets_all q rs ≡ true) × (meets_rule q r ≡ true)
unfolding meets_all
meets_append q [] r h = (refl, (and_both (meets_rule q r) true h).0)
meets_append q (s ∷ rs) r h =
    let a = and_both (meets_rule q s) (meets_all q (rs ++ (r ∷ []))) h in
    let b = meets_append q rs r a.1 in
    (rw a.0 b.0, b.1)

all_held : (q : Plan) (m : ℕ) → meets_all q (singles m) ≡ true → (v : ℕ) → v < m → get_or q v 0 ≡ 1
unfolding singles holds
all_held q zero h v l = absurd (omega arith)
all_held q (suc m) h v l = go (tri v m) (λ k. all_held q m (meets_append q (singles m) (at1 m ∷ []) h).0 v k)
  where
    go : Tri v m → (v < m → get_or q v 0 ≡ 1) → get_or q v 0 ≡ 1
    go (below k) ih = ih k
    go (level k) ih = rw k (eqb-true _ _ (single_held q (at1 m) (meets_append q (singles m) (at1 m ∷ []) h).1))
    go (above k) ih = absurd (omega arith)

everyone : Plan
everyone = replicate 200 1

-- and that plan meets every rule
meets_both : (q : Plan) (rs : List Rule) (r : Rule) → meets_all q rs ≡ true → meets_rule q r ≡ true → meets_all q (rs ++ (r ∷ [])) ≡ true
unfolding meets_all
meets_both q [] r h k = rw k
meets_both q (s ∷ rs) r h k = let a = and_both (meets_rule q s) (meets_all q rs) h in rw a.0 (meets_both q rs r a.1 k)

all_met : (m : ℕ) → m ≤ 200 → meets_all everyone (singles m) ≡ true
unfolding everyone singles meets_all holds
all_met zero l = refl
all_met (suc m) l =
    let held = get_or-replicate {A = ℕ} 200 m 1 0 l in
    meets_both everyone (singles m) (at1 m ∷ []) (all_met m (omega arith)) (held_meets everyone (at1 m) (at1 m ∷ []) first (rw held))

the_least : LeastPlan largest everyone
unfolding everyone
the_least = record { sheet = record { plan = record { size = refl; marks = small 200 }; meets = all_met 200 (omega arith) }; best = λ q m. rw (same q m) (better_irreflexive largest.costs everyone) }
  where
    small : (n v : ℕ) → get_or (replicate n 1) v 0 ≤ 2
    small zero v = zero-le
    small (suc n) zero = omega arith
    small (suc n) (suc v) = small n v

    same : (q : Plan) → MeetsSheet largest q → q ≡ replicate 200 1
    same q m =
        let l : length q ≡ 200 = m.plan.size in
        ext_get_or 0 q (replicate 200 1) l (λ v k. all_held q 200 m.meets v (omega arith) ∙ sym (get_or-replicate {A = ℕ} 200 v 1 0 (omega arith)))

nodes : (walk_hall largest).opened ≡ 201
unfolding power_sum widest singles
nodes = opens_exactly largest in_range equal

pub largest_answer : answer (words largest) 1000 200 ≡ least 200000000000 200 201 (replicate 200 1)
unfolding everyone words words_of rule_words singles held_from sum_of
largest_answer = answered_only (words largest) 1000 200 (least 200000000000 200 201 everyone) (record {
  hall = largest;
  sheet = record { sheet = refl; ranges = in_range; short = omega (arith, size); fits = omega arith };
  plan = (least_exact largest in_range.good everyone).1 the_least;
  total = refl;
  number = refl;
  count = record { walks = sym nodes; bounded = subst (Bounded largest) nodes (opens_bounded largest in_range); allowed = omega arith };
})
  where
    size : length (words largest) ≡ 602
    size = refl
