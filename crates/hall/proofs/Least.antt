-- Demand 2: the walk's best is the least plan, and there is none exactly where no plan meets every rule.
--
-- The argument: (1) a best so far never gets worse: what step 1 keeps, a walk keeps (`walk_keeps`); (2) a walk from p leaves a best that
-- no plan which extends p and meets every rule betters (`walk_covers`): step 1 keeps p or a better one, step 2 closes only what
-- `shut_covers` allows, and in step 3 one of the entries leads to that plan (`branches`); (3) whatever holds of the first node and
-- survives a hold holds of the best, which meets every rule (`walk_sound`). Each is an induction over an arbitrary walker of the
-- children. The claims: `best_least`, `least_best`, `none_best`, `best_none`, `least_only`. Assumes nothing.
use mathlib.Core.Path.{◌≡◌, refl, subst}
use mathlib.Core.Logic.{◌⊎◌, inl, inr}
use mathlib.Core.Bool.{Bool, true, false, cond}
use mathlib.Core.List.{List, [], ◌∷◌}
use Prim.Native.Nat.{ℕ, zero, suc, ◌+◌, ◌-◌, ◌≤◌}
use native.Mathlib.Omega.{arith}
use lib.ListN.{length}
use Rattle.hall.specs.Hall.{Entry, Rule, Hall, Plan, PlanOf, is_free, hold, meets_all, first_unmet}
use Rattle.hall.specs.Order.{held_of, rank, better, MeetsSheet, LeastPlan, NoPlan}
use Rattle.hall.specs.Walk.{Best, none_yet, so_far, Walker, keep, shut, still, after, entry_by, through, opening, node_by, node, walk, walk_from, start, walk_hall}
use Rattle.lists.proofs.Cases.{test, fails}
use Rattle.hall.proofs.Order.{not_after, one_way, neither_better}
use Rattle.hall.proofs.Plans.{Extends, extended, start_plan, start_extended, hold_plan}
use Rattle.hall.proofs.Rules.{Branch, here, there}
use Rattle.hall.proofs.Unmet.{branches}
use Rattle.hall.proofs.Shut.{AtLeast, All, shut_covers}
use Rattle.hall.proofs.Walks.{child_fuel, no_child}

-- ── step 1 ──
pub keep_covers : (cs : List ℕ) (p : Plan) (b : Best) (q : Plan) → Extends p q → better cs q (keep cs p b) ≡ false
unfolding keep better
keep_covers cs p none_yet q x = extended cs x
keep_covers cs p (so_far b) q x = go (test (better cs p b))
  where
    go : (better cs p b ≡ true) ⊎ (better cs p b ≡ false) → better cs q (cond (better cs p b) p b) ≡ false
    go (inl u) = rw u (extended cs x)
    go (inr u) = rw u (not_after (rank cs b) (rank cs p) (rank cs q) u (extended cs x))

pub keep_keeps : (cs : List ℕ) (p : Plan) (b : Best) (q : Plan) → AtLeast cs b q → better cs q (keep cs p b) ≡ false
unfolding keep better
keep_keeps cs p none_yet q h = absurd h
keep_keeps cs p (so_far b) q h = go (test (better cs p b))
  where
    go : (better cs p b ≡ true) ⊎ (better cs p b ≡ false) → better cs q (cond (better cs p b) p b) ≡ false
    go (inl u) = rw u (not_after (rank cs p) (rank cs b) (rank cs q) (fails (λ t. one_way (rank cs b) (rank cs p) t u)) h)
    go (inr u) = rw u h

pub keep_all_lem : (P : Plan → Type 0) (cs : List ℕ) (p : Plan) (b : Best) → P p → All P b → P (keep cs p b)
unfolding keep
keep_all_lem P cs p none_yet h k = h
keep_all_lem P cs p (so_far b) h k = go (better cs p b)
  where
    go : (t : Bool) → P (cond t p b)
    go true = h
    go false = k

-- a walker that leaves what is known of the best so far
abbrev pub Keeps : (Best → Type 0) → Walker → Type 0
Keeps I c = (p : Plan) (b : Best) → I b → I (c p b).best

-- ── what step 1 keeps, a walk keeps ──
module _ (I : Best → Type 0) where
  pub through_keeps : (c : Walker) → Keeps I c → (p : Plan) (es : Rule) (b : Best) → I b → I (through c p es b).best
  unfolding through entry_by after still
  through_keeps c k p [] b a = a
  through_keeps c k p (e ∷ es) b a = go (is_free p e) (through_keeps c k p es)
    where
      go : (t : Bool) → ((b : Best) → I b → I (through c p es b).best) → I (entry_by t c p e (through c p es) b).best
      go true ih = ih _ (k (hold p e) b a)
      go false ih = ih b a

  module _ (h : Hall) (on-keep : (p : Plan) (b : Best) → I b → I (so_far (keep h.costs p b))) where
    node_keeps : (c : Walker) → Keeps I c → Keeps I (node c h)
    unfolding node node_by opening still
    node_keeps c k p b a = go (meets_all p h.rules) (shut h p b)
      where
        go : (m s : Bool) → I (node_by m s c h p b).best
        go true s = on-keep p b a
        go false true = a
        go false false = through_keeps c k p (first_unmet p h.rules) b a

    pub walk_keeps : (n : ℕ) → Keeps I (walk h n)
    unfolding walk still
    walk_keeps zero = node_keeps _ (λ p b a. a)
    walk_keeps (suc n) = node_keeps _ (walk_keeps n)

module _ (h : Hall) where
  -- ── no plan below a node betters what its walk leaves ──
  module _ (q : Plan) where
    abbrev Covered : Best → Type 0
    Covered b = AtLeast h.costs b q

    through_covers : (c : Walker) → Keeps Covered c → (p : Plan) (es : Rule) (b : Best)
        → ((e : Entry) (b : Best) → is_free p e ≡ true → Extends (hold p e) q → Covered (c (hold p e) b).best)
        → Branch p q es → Covered (through c p es b).best
    unfolding through entry_by after
    through_covers c k p [] b ih x'' = elim x'' [ ]
    through_covers c k p (e ∷ es) b ih (here f x) = rw f (through_keeps Covered c k p es _ (ih e b f x))
    through_covers c k p (e ∷ es) b ih (there n i) = go (is_free p e) (λ b. through_covers c k p es b ih i)
      where
        go : (t : Bool) → ((b : Best) → Covered (through c p es b).best) → Covered (entry_by t c p e (through c p es) b).best
        go true rest = rest _
        go false rest = rest b

    node_covers : (c : Walker) → Keeps Covered c → (p : Plan) (b : Best)
        → ((e : Entry) (b : Best) → is_free p e ≡ true → Extends (hold p e) q → Covered (c (hold p e) b).best)
        → Extends p q → meets_all q h.rules ≡ true → Covered (node c h p b).best
    unfolding node node_by opening still
    node_covers c k p b ih x m = go (meets_all p h.rules) (shut h p b) refl refl
      where
        go : (s t : Bool) → meets_all p h.rules ≡ s → shut h p b ≡ t → Covered (node_by s t c h p b).best
        go true t u v = keep_covers h.costs p b q x
        go false true u v = shut_covers h p b q v u x m
        go false false u v = through_covers c k p (first_unmet p h.rules) b ih (branches h.rules x u m)

    walk_covers : (n : ℕ) (p : Plan) (b : Best) → length p ≤ n + held_of p → Extends p q → meets_all q h.rules ≡ true → Covered (walk h n p b).best
    unfolding walk still
    walk_covers zero p b l x m = node_covers _ (λ p b a. a) p b (λ e b f y. no_child p e l f) x m
    walk_covers (suc n) p b l x m = node_covers _ (walk_keeps Covered h (λ p b. keep_keeps h.costs p b q) n) p b (λ e b f y. walk_covers n (hold p e) b (child_fuel n p e l f) y m) x m

  -- ── what holds of the first node and survives a hold holds of the best, which meets every rule ──
  module _ (P : Plan → Type 0) (on-hold : (p : Plan) (e : Entry) → is_free p e ≡ true → P p → P (hold p e)) where
    abbrev Good : Plan → Type 0
    Good r = P r × (meets_all r h.rules ≡ true)

    abbrev Sound : Walker → Type 0
    Sound c = (p : Plan) (b : Best) → P p → All Good b → All Good (c p b).best

    through_sound : (c : Walker) → Sound c → (p : Plan) (es : Rule) (b : Best) → P p → All Good b → All Good (through c p es b).best
    unfolding through entry_by after still
    through_sound c k p [] b i a = a
    through_sound c k p (e ∷ es) b i a = go (is_free p e) refl (λ b. through_sound c k p es b i)
      where
        go : (t : Bool) → is_free p e ≡ t → ((b : Best) → All Good b → All Good (through c p es b).best) → All Good (entry_by t c p e (through c p es) b).best
        go true u ih = ih _ (k (hold p e) b (on-hold p e u i) a)
        go false u ih = ih b a

    node_sound : (c : Walker) → Sound c → Sound (node c h)
    unfolding node node_by opening still
    node_sound c k p b i a = go (meets_all p h.rules) (shut h p b) refl
      where
        go : (s t : Bool) → meets_all p h.rules ≡ s → All Good (node_by s t c h p b).best
        go true t u = keep_all_lem Good h.costs p b (i, u) a
        go false true u = a
        go false false u = through_sound c k p (first_unmet p h.rules) b i a

    walk_sound : (n : ℕ) → Sound (walk h n)
    unfolding walk still
    walk_sound zero = node_sound _ (λ p b i a. a)
    walk_sound (suc n) = node_sound _ (walk_sound n)

  -- ── the claims ──
  covers : (q : Plan) → MeetsSheet h q → AtLeast h.costs (walk_hall h).best q
  unfolding walk_hall walk_from
  covers q m = walk_covers q (length (start h) - held_of (start h)) (start h) none_yet (omega arith) (start_extended h q m.plan) m.meets

  sound : All (λ r. PlanOf h r × (meets_all r h.rules ≡ true)) (walk_hall h).best
  unfolding walk_hall walk_from
  sound = walk_sound (PlanOf h) (λ p e f k. hold_plan p e k) (length (start h) - held_of (start h)) (start h) none_yet (start_plan h) tt

  -- the walk's best is the least plan
  pub best_least : (p : Plan) → (walk_hall h).best ≡ so_far p → LeastPlan h p
  best_least p e =
      let s = subst (All (λ r. PlanOf h r × (meets_all r h.rules ≡ true))) e sound in
      record { sheet = record { plan = s.0; meets = s.1 }; best = λ q m. subst (λ (b : Best). AtLeast h.costs b q) e (covers q m) }

  -- it is the only one
  pub least_only : (p q : Plan) → LeastPlan h p → LeastPlan h q → p ≡ q
  least_only p q l k = neither_better h.costs p q (k.best p l.sheet) (l.best q k.sheet)

  -- where a least plan exists, it is the walk's best
  pub least_best : (p : Plan) → LeastPlan h p → (walk_hall h).best ≡ so_far p
  least_best p l = go (walk_hall h).best refl
    where
      go : (b : Best) → (walk_hall h).best ≡ b → b ≡ so_far p
      go none_yet e = absurd (subst (λ (b : Best). AtLeast h.costs b p) e (covers p l.sheet))
      go (so_far q) e = rw (least_only q p (best_least q e) l)

  -- there is no best exactly where no plan meets every rule
  pub none_best : (walk_hall h).best ≡ none_yet → NoPlan h
  none_best e q m = subst (λ (b : Best). AtLeast h.costs b q) e (covers q m)

  pub best_none : NoPlan h → (walk_hall h).best ≡ none_yet
  best_none n = go (walk_hall h).best refl
    where
      go : (b : Best) → (walk_hall h).best ≡ b → b ≡ none_yet
      go none_yet e = refl
      go (so_far p) e = absurd (n p (best_least p e).sheet)
