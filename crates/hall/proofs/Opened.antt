-- 02, request 5: the plans that a walk opens. They are so many as the nodes counted (`opened_plans`), and plans of the hall
-- (`opened_plan`); each plan that meets the sheet with the least cost and held number is one of them (`tie_opened`).
--
-- The argument for the last: a best so far beats q where it costs less, or the same and holds fewer devices (`Beats`). It never stops
-- doing so (`keep_beats`). A walk from p opens each plan q that extends p and meets every rule, or leaves a best that beats q
-- (`walk_finds`): where p meets every rule, q is p or holds more at no less cost, and step 1 keeps p or a better plan; step 2 closes only
-- nodes below which the best so far beats everything (`shut_beats`); and in step 3 one of the entries leads to q (`branches`). At the end
-- of the walk of a hall a plan with the best's cost and held number is not beaten, so it was opened. Assumes nothing.
use mathlib.Core.Path.{◌≡◌, refl, sym, ap, subst}
use mathlib.Core.Logic.{◌⊎◌, inr, ⊎_elim, ⊎_map}
use mathlib.Core.Bool.{Bool, true, false}
use mathlib.Core.List.{List, [], ◌∷◌}
use Prim.Native.Nat.{ℕ, zero, suc, ◌+◌, ◌-◌, ◌≤◌}
use native.Mathlib.Omega.{arith}
use lib.ListN.{length, length-append}
use Rattle.lists.specs.Lists.{In, first, later}
use Rattle.hall.specs.Hall.{Entry, Rule, Hall, Plan, PlanOf, is_free, hold, meets_all, first_unmet}
use Rattle.hall.specs.Order.{cost_of, held_of, MeetsSheet}
use Rattle.hall.specs.Walk.{Best, none_yet, so_far, Walker, keep, shut, still, after, entry_by, through, opening, node_by, node, walk, walk_from, start, walk_hall}
use Rattle.hall.specs.Ties.{lower}
use Rattle.lists.proofs.Cases.{both}
use Rattle.lists.proofs.In.{in_none, in_cons, in_front_lem, in_behind, in_either}
use Rattle.hall.proofs.Order.{better_irreflexive}
use Rattle.hall.proofs.Lower.{lower_still, level_not_lower}
use Rattle.hall.proofs.Plans.{Extends, extends_refl, dearer, start_plan, start_extended, hold_plan}
use Rattle.hall.proofs.Rules.{Branch, here, there}
use Rattle.hall.proofs.Unmet.{branches}
use Rattle.hall.proofs.Shut.{Beats, shut_beats}
use Rattle.hall.proofs.Walks.{child_fuel, no_child}
use Rattle.hall.proofs.Least.{keep_covers, keep_keeps, Keeps, through_keeps, walk_keeps}

-- ── so many as nodes ──
abbrev Counts : Walker → Type 0
Counts c = (p : Plan) (b : Best) → (c p b).opened ≡ length (c p b).plans

through_counts : (c : Walker) → Counts c → (p : Plan) (es : Rule) (b : Best) → (through c p es b).opened ≡ length (through c p es b).plans
unfolding through entry_by after still
through_counts c k p [] b = refl
through_counts c k p (e ∷ es) b = go (is_free p e) (through_counts c k p es)
  where
    go : (t : Bool) → ((b : Best) → (through c p es b).opened ≡ length (through c p es b).plans) → (entry_by t c p e (through c p es) b).opened ≡ length (entry_by t c p e (through c p es) b).plans
    go true ih = let w = c (hold p e) b in omega (arith, k (hold p e) b, ih w.best, length-append w.plans (through c p es w.best).plans)
    go false ih = ih b

node_counts : (h : Hall) (c : Walker) → Counts c → Counts (node c h)
unfolding node node_by opening still
node_counts h c k p b = ap suc (go (meets_all p h.rules) (shut h p b))
  where
    go : (m s : Bool) → (node_by m s c h p b).opened ≡ length (node_by m s c h p b).plans
    go true s = refl
    go false true = refl
    go false false = through_counts c k p (first_unmet p h.rules) b

walk_counts : (h : Hall) (n : ℕ) → Counts (walk h n)
unfolding walk still
walk_counts h zero = node_counts h (λ p b. still b) (λ p b. refl)
walk_counts h (suc n) = node_counts h _ (walk_counts h n)

-- ── what holds of the first node and survives a hold holds of each plan opened ──
module _ (P : Plan → Type 0) (on-hold : (p : Plan) (e : Entry) → P p → P (hold p e)) (q : Plan) where
  abbrev Holds : Walker → Type 0
  Holds c = (p : Plan) (b : Best) → P p → In q (c p b).plans → P q

  through_holds : (c : Walker) → Holds c → (p : Plan) (es : Rule) (b : Best) → P p → In q (through c p es b).plans → P q
  unfolding through entry_by after still
  through_holds c k p [] b a i = in_none i
  through_holds c k p (e ∷ es) b a i = go (is_free p e) (λ b. through_holds c k p es b a) i
    where
      go : (t : Bool) → ((b : Best) → In q (through c p es b).plans → P q) → In q (entry_by t c p e (through c p es) b).plans → P q
      go true ih j = ⊎_elim (k (hold p e) b (on-hold p e a)) (ih (c (hold p e) b).best) (in_either (c (hold p e) b).plans j)
      go false ih j = ih b j

  node_holds : (h : Hall) (c : Walker) → Holds c → Holds (node c h)
  unfolding node node_by opening still
  node_holds h c k p b a i = ⊎_elim (λ e. rw e a) (go (meets_all p h.rules) (shut h p b)) (in_cons i)
    where
      go : (m s : Bool) → In q (node_by m s c h p b).plans → P q
      go true s j = in_none j
      go false true j = in_none j
      go false false j = through_holds c k p (first_unmet p h.rules) b a j

  walk_holds : (h : Hall) (n : ℕ) → Holds (walk h n)
  unfolding walk still
  walk_holds h zero = node_holds h _ (λ p b a i. in_none i)
  walk_holds h (suc n) = node_holds h _ (walk_holds h n)

-- ── step 1: what beats q still does, and where q extends p it is p or is beaten ──
keep_beats : (cs : List ℕ) (p : Plan) (b : Best) (q : Plan) → Beats cs b q → lower cs (keep cs p b) q ≡ true
keep_beats cs p none_yet q t = absurd t
keep_beats cs p (so_far b) q t = lower_still cs b (keep cs p (so_far b)) q t (keep_keeps cs p (so_far b) b (better_irreflexive cs b))

keep_finds : (cs : List ℕ) (p : Plan) (b : Best) (q : Plan) → Extends p q → (p ≡ q) ⊎ (lower cs (keep cs p b) q ≡ true)
keep_finds cs p b q x = ⊎_map (λ e. e) (λ t. lower_still cs p (keep cs p b) q t (keep_covers cs p b p (extends_refl p))) (dearer cs x)

-- ── a walk opens q, or leaves a best that beats it ──
module _ (h : Hall) (q : Plan) where
  abbrev Beaten : Best → Type 0
  Beaten b = Beats h.costs b q

  abbrev Found : List Plan → Best → Type 0
  Found ps b = In q ps ⊎ Beaten b

  abbrev Finds : Walker → Plan → Type 0
  Finds c p = (b : Best) → Extends p q → Found (c p b).plans (c p b).best

  through_finds : (c : Walker) → Keeps Beaten c → (p : Plan) (es : Rule) (b : Best) → ((e : Entry) → is_free p e ≡ true → Finds c (hold p e))
      → Branch p q es → Found (through c p es b).plans (through c p es b).best
  unfolding through entry_by after
  through_finds c k p [] b ih x'' = elim x'' [ ]
  through_finds c k p (e ∷ es) b ih (here f x) = rw f (⊎_map (in_front_lem _) (through_keeps Beaten c k p es _) (ih e f b x))
  through_finds c k p (e ∷ es) b ih (there n i) = go (is_free p e) (λ b. through_finds c k p es b ih i)
    where
      go : (t : Bool) → ((b : Best) → Found (through c p es b).plans (through c p es b).best)
          → Found (entry_by t c p e (through c p es) b).plans (entry_by t c p e (through c p es) b).best
      go true rest = ⊎_map (in_behind (c (hold p e) b).plans) (λ t. t) (rest _)
      go false rest = rest b

  module _ (m : meets_all q h.rules ≡ true) where
    node_finds : (c : Walker) → Keeps Beaten c → (p : Plan) → ((e : Entry) → is_free p e ≡ true → Finds c (hold p e)) → Finds (node c h) p
    unfolding node node_by opening still
    node_finds c k p ih b x = go (meets_all p h.rules) (shut h p b) refl refl
      where
        go : (s t : Bool) → meets_all p h.rules ≡ s → shut h p b ≡ t → Found (p ∷ (node_by s t c h p b).plans) (node_by s t c h p b).best
        go true t u v = ⊎_map (λ e. rw e first) (λ t. t) (keep_finds h.costs p b q x)
        go false true u v = inr (shut_beats h p b q v u x m)
        go false false u v = ⊎_map later (λ t. t) (through_finds c k p (first_unmet p h.rules) b ih (branches h.rules x u m))

    walk_finds : (n : ℕ) (p : Plan) → length p ≤ n + held_of p → Finds (walk h n) p
    unfolding walk still
    walk_finds zero p l = node_finds _ (λ p b t. t) p (λ e f. no_child p e l f)
    walk_finds (suc n) p l = node_finds _ (walk_keeps Beaten h (λ p b. keep_beats h.costs p b q) n) p (λ e f. walk_finds n (hold p e) (child_fuel n p e l f))

-- ── the claims ──
module _ (h : Hall) where
  pub opened_plans : (walk_hall h).opened ≡ length (walk_hall h).plans
  unfolding walk_hall walk_from
  opened_plans = walk_counts h (length (start h) - held_of (start h)) (start h) none_yet

  pub opened_plan : (q : Plan) → In q (walk_hall h).plans → PlanOf h q
  unfolding walk_hall walk_from
  opened_plan q i = walk_holds (PlanOf h) (λ p e k. hold_plan p e k) q h (length (start h) - held_of (start h)) (start h) none_yet (start_plan h) i

  found : (q : Plan) → MeetsSheet h q → In q (walk_hall h).plans ⊎ Beats h.costs (walk_hall h).best q
  unfolding walk_hall walk_from
  found q m = walk_finds h q m.meets (length (start h) - held_of (start h)) (start h) (omega arith) none_yet (start_extended h q m.plan)

  pub tie_opened : (p q : Plan) → (walk_hall h).best ≡ so_far p → MeetsSheet h q → cost_of h.costs q ≡ cost_of h.costs p → held_of q ≡ held_of p → In q (walk_hall h).plans
  tie_opened p q e m same-cost same-held =
      ⊎_elim
      (λ i. i)
      (λ t. both (subst (λ (b : Best). Beats h.costs b q) e t) (level_not_lower h.costs p q (sym same-cost) (sym same-held)))
      (found q m)
