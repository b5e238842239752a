-- What is kept while plans are gone through: the best so far and the plans that tie with it. 02, request 5.
--
-- The argument: after any plans, each that is kept was gone through, meets every rule and ties with the best; of those that meet every
-- rule none is lower than the best, and each that ties with it is kept; none is kept twice (`State`). Where the next plan is lower than the
-- best, it is kept alone (`alone`); where it ties, it is kept too (`grows`) unless it is already, and the numbers of the best stay as they
-- are (`level`); else nothing changes (`stays`). The claims, for any plans: `keep_append`, `kept_order`, `kept_number`, `kept_plan`; for
-- those that the walk of a hall opens, `kept_best`: the best of them is the walk's, by an induction over an arbitrary walker of the
-- children. Assumes nothing.
use mathlib.Core.Path.{◌≡◌, refl, sym, ◌∙◌, ap, subst}
use mathlib.Core.Logic.{◌⊎◌, inl, inr, ⊎_elim}
use mathlib.Core.Bool.{Bool, true, false, cond, not, ◌||◌, false≢true}
use mathlib.Core.List.{List, [], ◌∷◌, ◌++◌, append_assoc, append-nil}
use Prim.Native.Nat.{ℕ, zero, suc, ◌-◌}
use lib.ListN.{length}
use Rattle.lists.specs.Lists.{In, first, later}
use Rattle.hall.specs.Hall.{Rule, Hall, Plan, is_free, hold, meets_all, first_unmet}
use Rattle.hall.specs.Order.{cost_of, held_of, less, better}
use Rattle.hall.specs.Walk.{Best, none_yet, so_far, Walker, keep, shut, still, after, entry_by, through, opening, node_by, node, walk, walk_from, start, walk_hall}
use Rattle.hall.specs.Ties.{ties, tying, in_order, stands_in, lower, noted_by, noted, Kept, keep_by, keep_all, nothing_kept}
use Rattle.lists.proofs.Cases.{test, both, fails, or_right}
use Rattle.lists.proofs.In.{in_none, in_cons, in_front_lem, in_behind, in_last}
use Rattle.hall.proofs.Order.{irreflexive, total, one_way}
use Rattle.hall.proofs.Lower.{lower_better, lower_not_better, lower_past, ties_numbers, numbers_tie, level_not_lower, level_ties, level_lower, neither_lower}
use Rattle.hall.proofs.Ordered.{Distinct, distinct_last, ordered, into_order, out_of_order, rising_only, ordered_length}
use Rattle.hall.proofs.EveryTie.{Ties, into_ties, out_of_ties}

-- ── a plan stands among others where it is one of them ──
stands_here : (p q : Plan) → not (less p q || less q p) ≡ true → p ≡ q
stands_here p q h = go (less p q) (less q p) refl refl h
  where
    go : (s t : Bool) → less p q ≡ s → less q p ≡ t → not (s || t) ≡ true → p ≡ q
    go true t u v h = absurd (false≢true h)
    go false true u v h = absurd (false≢true h)
    go false false u v h = total p q u v

stands_in_lem : (p : Plan) (ts : List Plan) → stands_in p ts ≡ true → In p ts
unfolding stands_in
stands_in_lem p [] h = absurd (false≢true h)
stands_in_lem p (q ∷ ts) h = go (not (less p q || less q p)) (stands_here p q) h (stands_in_lem p ts)
  where
    go : (b : Bool) → (b ≡ true → p ≡ q) → (b || stands_in p ts) ≡ true → (stands_in p ts ≡ true → In p ts) → In p (q ∷ ts)
    go true e h ih = rw (e refl) first
    go false e h ih = later (ih h)

in_stands : {p : Plan} (ts : List Plan) → In p ts → stands_in p ts ≡ true
unfolding stands_in
in_stands {p = p} [] x' = elim x' [ ]
in_stands (p ∷ ts) first = rw (irreflexive p)
in_stands {p} (q ∷ ts) (later i) = or_right (not (less p q || less q p)) (stands_in p ts) (in_stands ts i)

-- ── the best, after step 1 ──
module _ (cs : List ℕ) (p b : Plan) where
  keep_lower : lower cs p b ≡ true → keep cs p (so_far b) ≡ p
  unfolding keep
  keep_lower h = rw (lower_better cs p b h)

  keep_level : ties cs p b ≡ true → ties cs b (keep cs p (so_far b)) ≡ true
  unfolding keep
  keep_level h = go (better cs p b) (ties_numbers cs p b h)
    where
      go : (t : Bool) → (cost_of cs p ≡ cost_of cs b) × (held_of p ≡ held_of b) → ties cs b (cond t p b) ≡ true
      go true n = numbers_tie cs b p (sym n.0) (sym n.1)
      go false n = numbers_tie cs b b refl refl

  keep_behind : lower cs p b ≡ false → ties cs p b ≡ false → keep cs p (so_far b) ≡ b
  unfolding keep
  keep_behind h k = go (test (lower cs b p))
    where
      go : (lower cs b p ≡ true) ⊎ (lower cs b p ≡ false) → cond (better cs p b) p b ≡ b
      go (inl u) = rw (lower_not_better cs b p u)
      go (inr u) = both (neither_lower cs p b h u) k

-- ── what is kept ──
-- after the plans gone through, where b is the best of them and ts are those kept
record State (h : Hall) (gone : List Plan) (b : Plan) (ts : List Plan) : Type 0 where
  pub from : (q : Plan) → In q ts → In q gone × Ties h b q
  pub least : (q : Plan) → In q gone → meets_all q h.rules ≡ true → lower h.costs q b ≡ false
  pub every : (q : Plan) → In q gone → Ties h b q → In q ts
  pub once : Distinct ts

-- ── one plan more ──
module _ (h : Hall) (gone : List Plan) (p : Plan) where
  -- it is the best, and nothing else that meets every rule is as low
  alone : meets_all p h.rules ≡ true → ((q : Plan) → In q gone → meets_all q h.rules ≡ true → lower h.costs p q ≡ true) → State h (gone ++ (p ∷ [])) p (p ∷ [])
  unfolding lower
  alone m low = record {
    from = λ q i. ⊎_elim (λ e. rw e (in_behind gone first, (m, numbers_tie h.costs p p refl refl))) in_none (in_cons i);
    least = λ q i n. ⊎_elim (λ j. fails (λ t. one_way _ _ t (low q j n))) (λ e. rw e (irreflexive _)) (in_last gone i);
    every = λ q i t. ⊎_elim (λ j. both (low q j t.0) (not_low q t.1)) (λ e. rw e first) (in_last gone i);
    once = (in_none, tt);
  }
    where
      not_low : (q : Plan) → ties h.costs q p ≡ true → lower h.costs p q ≡ false
      not_low q t = let n = ties_numbers h.costs q p t in level_not_lower h.costs p q (sym n.0) (sym n.1)

  module _ (b : Plan) (ts : List Plan) (s : State h gone b ts) where
    -- it does not meet every rule, or is behind the best, or is kept already
    stays : (meets_all p h.rules ≡ true → (lower h.costs p b ≡ false) × (ties h.costs p b ≡ true → In p ts)) → State h (gone ++ (p ∷ [])) b ts
    stays k = record {
      from = λ q i. let f = s.from q i in (in_front_lem (p ∷ []) f.0, f.1);
      least = λ q i m. ⊎_elim (λ j. s.least q j m) (λ e. rw e (k (rw e at m)).0) (in_last gone i);
      every = λ q i t. ⊎_elim (λ j. s.every q j t) (λ e. rw e ((k (rw e at t.0)).1 (rw e at t.1))) (in_last gone i);
      once = s.once;
    }

    -- it ties with the best, and is not kept yet
    grows : meets_all p h.rules ≡ true → ties h.costs p b ≡ true → (In p ts → ⊥) → State h (gone ++ (p ∷ [])) b (ts ++ (p ∷ []))
    grows m t n = record {
      from = λ q i. ⊎_elim (λ j. let f = s.from q j in (in_front_lem (p ∷ []) f.0, f.1)) (λ e. rw e (in_behind gone first, (m, t))) (in_last ts i);
      least = λ q i m. ⊎_elim (λ j. s.least q j m) (λ e. rw e not_low) (in_last gone i);
      every = λ q i u. ⊎_elim (λ j. in_front_lem (p ∷ []) (s.every q j u)) (λ e. rw e (in_behind ts first)) (in_last gone i);
      once = distinct_last ts s.once n;
    }
      where
        not_low : lower h.costs p b ≡ false
        not_low = let n = ties_numbers h.costs p b t in level_not_lower h.costs p b n.0 n.1

-- another best with the same numbers
level : (h : Hall) (gone : List Plan) (b d : Plan) (ts : List Plan) → ties h.costs b d ≡ true → State h gone b ts → State h gone d ts
level h gone b d ts t s =
    let n = ties_numbers h.costs b d t in
    let same = level_ties h.costs b d n.0 n.1 in
    record {
      from = λ q i. let f = s.from q i in (f.0, (f.1.0, sym (same q) ∙ f.1.1));
      least = λ q i m. sym (level_lower h.costs b d n.0 n.1 q) ∙ s.least q i m;
      every = λ q i u. s.every q i (u.0, same q ∙ u.1);
      once = s.once;
    }

-- ── the plans gone through ──
-- with no best, nothing is kept and no plan met every rule
abbrev Passed : Hall → List Plan → Best → List Plan → Type 0
Passed h gone none_yet ts = (ts ≡ []) × ((q : Plan) → In q gone → meets_all q h.rules ≡ false)
Passed h gone (so_far b) ts = State h gone b ts

module _ (h : Hall) where
  -- a plan that meets every rule, where there is a best
  noted_next : (gone : List Plan) (b : Plan) (ts : List Plan) (p : Plan) → meets_all p h.rules ≡ true → State h gone b ts
      → State h (gone ++ (p ∷ [])) (keep h.costs p (so_far b)) (noted_by (lower h.costs p b) (ties h.costs p b) p ts)
  unfolding noted_by
  noted_next gone b ts p m s = go (lower h.costs p b) (ties h.costs p b) refl refl
    where
      tied : lower h.costs p b ≡ false → ties h.costs p b ≡ true → (stands_in p ts ≡ true) ⊎ (stands_in p ts ≡ false) → State h (gone ++ (p ∷ [])) b (cond (stands_in p ts) ts (ts ++ (p ∷ [])))
      tied u v (inl e) = rw e (stays h gone p b ts s (λ m. (u, λ t. stands_in_lem p ts e)))
      tied u v (inr e) = rw e (grows h gone p b ts s m v (λ i. both (in_stands ts i) e))

      go : (x y : Bool) → lower h.costs p b ≡ x → ties h.costs p b ≡ y → State h (gone ++ (p ∷ [])) (keep h.costs p (so_far b)) (noted_by x y p ts)
      go true y u v = rw (keep_lower h.costs p b u) (alone h gone p m (λ q i n. lower_past h.costs p b q u (s.least q i n)))
      go false true u v = level h (gone ++ (p ∷ [])) b (keep h.costs p (so_far b)) _ (keep_level h.costs p b v) (tied u v (test (stands_in p ts)))
      go false false u v = rw (keep_behind h.costs p b u v) (stays h gone p b ts s (λ m. (u, λ t. both t v)))

  noted_passed : (gone : List Plan) (b : Best) (ts : List Plan) (p : Plan) → meets_all p h.rules ≡ true → Passed h gone b ts
      → State h (gone ++ (p ∷ [])) (keep h.costs p b) (noted h.costs p b ts)
  unfolding keep noted
  noted_passed gone none_yet ts p m s = alone h gone p m (λ q i n. both n (s.1 q i))
  noted_passed gone (so_far b) ts p m s = noted_next gone b ts p m s

  unmet_passed : (gone : List Plan) (b : Best) (ts : List Plan) (p : Plan) → meets_all p h.rules ≡ false → Passed h gone b ts → Passed h (gone ++ (p ∷ [])) b ts
  unmet_passed gone none_yet ts p u s = (s.0, λ q i. ⊎_elim (s.1 q) (λ e. rw e u) (in_last gone i))
  unmet_passed gone (so_far b) ts p u s = stays h gone p b ts s (λ m. both m u)

  all_passed : (gone : List Plan) (k : Kept) (ps : List Plan) → Passed h gone k.best k.ties → Passed h (gone ++ ps) (keep_all h k ps).best (keep_all h k ps).ties
  unfolding keep_all keep_by
  all_passed gone k [] s = rw append-nil s
  all_passed gone k (p ∷ ps) s = rw (← append_assoc gone (p ∷ []) ps) (all_passed (gone ++ (p ∷ [])) (keep_by (meets_all p h.rules) h.costs k p) ps (go (meets_all p h.rules) refl))
    where
      go : (t : Bool) → meets_all p h.rules ≡ t → Passed h (gone ++ (p ∷ [])) (keep_by t h.costs k p).best (keep_by t h.costs k p).ties
      go true u = noted_passed gone k.best k.ties p u s
      go false u = unmet_passed gone k.best k.ties p u s

  passed : (ps : List Plan) → Passed h ps (keep_all h nothing_kept ps).best (keep_all h nothing_kept ps).ties
  passed ps = all_passed [] nothing_kept ps (refl, λ q. in_none)

  -- ── the claims ──
  pub keep_append : (k : Kept) (ps qs : List Plan) → keep_all h k (ps ++ qs) ≡ keep_all h (keep_all h k ps) qs
  unfolding keep_all
  keep_append k [] qs = refl
  keep_append k (p ∷ ps) qs = keep_append (keep_by (meets_all p h.rules) h.costs k p) ps qs

  pub kept_order : (ps : List Plan) (b : Plan) → (keep_all h nothing_kept ps).best ≡ so_far b → in_order (keep_all h nothing_kept ps).ties ≡ in_order (tying h b ps)
  kept_order ps b e =
      rising_only (in_order ts) (in_order (tying h b ps)) (ordered ts) (ordered (tying h b ps))
      (λ q i. let f = s.from q (out_of_order ts i) in into_order (tying h b ps) (into_ties h b ps f.0 f.1))
      (λ q i. let f = out_of_ties h b ps (out_of_order (tying h b ps) i) in into_order ts (s.every q f.0 f.1))
    where
      ts : List Plan
      ts = (keep_all h nothing_kept ps).ties

      s : State h ps b ts
      s = subst (λ (d : Best). Passed h ps d ts) e (passed ps)

  pub kept_number : (ps : List Plan) → length (in_order (keep_all h nothing_kept ps).ties) ≡ length (keep_all h nothing_kept ps).ties
  kept_number ps = ordered_length ts (go (keep_all h nothing_kept ps).best ts (passed ps))
    where
      ts : List Plan
      ts = (keep_all h nothing_kept ps).ties

      go : (b : Best) (ts : List Plan) → Passed h ps b ts → Distinct ts
      go none_yet ts s = rw s.0 tt
      go (so_far b) ts s = s.once

-- what each plan gone through has, each plan kept has
pub kept_plan : (P : Plan → Type 0) (h : Hall) (ps : List Plan) → ((q : Plan) → In q ps → P q) → (q : Plan) → In q (keep_all h nothing_kept ps).ties → P q
kept_plan P h ps f q i = go (keep_all h nothing_kept ps).best (keep_all h nothing_kept ps).ties (passed h ps) i
  where
    go : (b : Best) (ts : List Plan) → Passed h ps b ts → In q ts → P q
    go none_yet ts s i = in_none (rw s.0 at i)
    go (so_far b) ts s i = f q (s.from q i).0

-- ── the plans that a walk opens ──
module _ (h : Hall) where
  -- the best after the plans that a walker opens is the best that it leaves
  abbrev Follows : Walker → Type 0
  Follows c = (p : Plan) (b : Best) (k : Kept) → k.best ≡ b → (keep_all h k (c p b).plans).best ≡ (c p b).best

  through_follows : (c : Walker) → Follows c → (p : Plan) (es : Rule) (b : Best) (k : Kept) → k.best ≡ b → (keep_all h k (through c p es b).plans).best ≡ (through c p es b).best
  unfolding through entry_by after still keep_all
  through_follows c f p [] b k e = e
  through_follows c f p (d ∷ es) b k e = go (is_free p d) (through_follows c f p es)
    where
      go : (t : Bool) → ((b : Best) (k : Kept) → k.best ≡ b → (keep_all h k (through c p es b).plans).best ≡ (through c p es b).best)
          → (keep_all h k (entry_by t c p d (through c p es) b).plans).best ≡ (entry_by t c p d (through c p es) b).best
      go true ih =
          let w = c (hold p d) b in
          ap (λ (k : Kept). k.best) (keep_append h k w.plans (through c p es w.best).plans) ∙ ih w.best (keep_all h k w.plans) (f (hold p d) b k e)
      go false ih = ih b k e

  node_follows : (c : Walker) → Follows c → Follows (node c h)
  unfolding node node_by opening still keep_all keep_by
  node_follows c f p b k e = go (meets_all p h.rules) (shut h p b)
    where
      go : (m s : Bool) → (keep_all h (keep_by m h.costs k p) (node_by m s c h p b).plans).best ≡ (node_by m s c h p b).best
      go true s = ap (λ (b : Best). so_far (keep h.costs p b)) e
      go false true = e
      go false false = through_follows c f p (first_unmet p h.rules) b k e

  walk_follows : (n : ℕ) → Follows (walk h n)
  unfolding walk still keep_all
  walk_follows zero = node_follows _ (λ p b k e. e)
  walk_follows (suc n) = node_follows _ (walk_follows n)

  pub kept_best : (keep_all h nothing_kept (walk_hall h).plans).best ≡ (walk_hall h).best
  unfolding walk_hall walk_from
  kept_best = walk_follows (length (start h) - held_of (start h)) (start h) none_yet nothing_kept refl
