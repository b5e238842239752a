-- The next plan in order.
--
-- The argument: the plans that come behind the last one written are put in order by their first and then, in order, those that come behind
-- that first (`next_order`). For these are the same plans, and plans in order are known by which they are (`same_order`); and the first
-- stands in front, since it comes before the others (`place_front`).
--
-- In order: the first of some plans, as the kit's `min` gives it (`first_came`, `next_found`), and none of no marks (`next_nothing`); which
-- plans come behind one (`behind_all`, `into_behind`, `out_of_behind`); what is found is first in order (`FirstIn`, `found`); the plans in
-- order (`next_none`, `next_order`). Assumes nothing.
use mathlib.Core.Path.{◌≡◌, refl, sym, ◌∙◌, ap}
use mathlib.Core.Logic.{◌⊎◌, inl, inr}
use mathlib.Core.Bool.{Bool, true, false, cond}
use mathlib.Core.List.{List, [], ◌∷◌}
use Prim.Native.Nat.{ℕ, zero, suc, ◌<◌}
use native.Mathlib.Omega.{arith}
use denote.Ref.{Bor}
use denote.Param.Members.{Mut}
use Rattle.std.specs.Prelude.{Option, None, Some, option_map}
use Rattle.std.specs.List.{fold}
use Rattle.std.specs.Fn.{CalledAt}
use Rattle.std.specs.Ordering.{nat_cmp, min_by_ordering}
use Rattle.std.specs.Cmp.Lexicographic.{slice_cmp}
use Rattle.std.specs.Iterator.{PicksByCmp}
use Rattle.std.specs.Iterator.Runs.{Run, EachRunFrom}
use Rattle.std.specs.Iterator.Adapters.{filter_source, filter_callee, filter_steps}
use Rattle.std.specs.declared.iter.Filter.{Filter}
use Rattle.std.specs.Slice.Iter.{chunks_exact_rest, chunks_exact_size, chunks_exact_steps}
use Rattle.std.proofs.Common.{Ordering, Less, Equal, Greater}
use Rattle.std.proofs.lemmas.Option.{none-some, same_Some}
use Rattle.std.proofs.lemmas.Iterator.{YieldsList}
use Rattle.std.proofs.lemmas.Iterator.Consumers.{YieldsList-at, YieldsList-from_filter, reduce_by_from_yields_List}
use Rattle.lists.specs.Lists.{In, first, later}
use Rattle.lists.proofs.Cases.{test, fails}
use Rattle.lists.proofs.In.{in_none, in_cons}
use Rattle.hall.specs.Hall.{Plan}
use Rattle.hall.specs.Order.{less}
use Rattle.hall.specs.Ties.{place_by, place, in_order}
use Rattle.hall.proofs.Order.{irreflexive, not_after, one_way, total, transitive}
use Rattle.hall.proofs.Ordered.{ordered, into_order, out_of_order, rising_only}
use Rattle.plans.specs.Runs.{plans_in, behind, first_of_two, first_of}
use Rattle.plans.proofs.Marks.{greater_is}
use Rattle.plans.proofs.Runs.{Sized, plans_sized, plans_none}
use Rattle.plans.proofs.Chunks.{plans_come}

-- ── the first of some plans ──
picked : (p q : Bor Plan) (o : Ordering) → o ≡ slice_cmp nat_cmp p.now q.now → (min_by_ordering o p q).now ≡ first_of_two p.now q.now
picked p q Less e = rw (← greater_is p.now q.now Less e) refl
picked p q Equal e = rw (← greater_is p.now q.now Equal e) refl
picked p q Greater e = rw (← greater_is p.now q.now Greater e) refl

-- what `min` gives, of plans that come one by one
first_came : {S : Type 0} {steps : S → Option (Bor Plan) → S → Type 0} {s : S} {ps : List Plan} (r : Option (Bor Plan))
    → PicksByCmp steps min_by_ordering (λ p q. slice_cmp nat_cmp p.now q.now) s r → YieldsList steps (λ p. p.now) s ps
    → option_map (λ p. p.now) r ≡ first_of ps
first_came r = reduce_by_from_yields_List _ first_of_two _ r (λ p q. picked p q _ refl)

-- of the chunks of a run, those that come behind one plan. `runs` alone shows by what they are told apart
pub next_found : {F : Type 0} {g : Mut F (Bor (Bor Plan) × Unit {0}) Bool} {f : F} {s : _} {t : Filter _ F} {P : Run (filter_steps chunks_exact_steps g) → Type 0}
    (n : ℕ) (run : List ℕ) (last : Plan) (r : Option (Bor Plan)) → EachRunFrom (filter_steps chunks_exact_steps g) t P
    → PicksByCmp (filter_steps chunks_exact_steps g) min_by_ordering (λ p q. slice_cmp nat_cmp p.now q.now) t r → filter_source t ≡ s → filter_callee t ≡ f
    → chunks_exact_rest s ≡ run → chunks_exact_size s ≡ n → 0 < n → ((x : Bor Plan) (b : Bool) (q : F) → CalledAt g f x b q → (q ≡ f) × (b ≡ less last x.now))
    → option_map (λ p. p.now) r ≡ first_of (behind last (plans_in n run))
next_found n run last r runs ran source callee rest size some test =
    first_came r ran (YieldsList-from_filter _ _ (YieldsList-at source (plans_come n run some rest size)) callee test)

-- ── which plans come behind one ──
pub next_nothing : (last : Plan) (n : ℕ) (run : List ℕ) → n ≡ 0 → None ≡ first_of (behind last (plans_in n run))
next_nothing last n run e = rw (plans_none n run e) refl

-- all that have marks come behind no marks
marked_behind : (n : ℕ) (ps : List Plan) → 0 < n → Sized n ps → behind [] ps ≡ ps
unfolding less
marked_behind n [] p s = refl
marked_behind n ([] ∷ ps) p s = absurd (omega (arith, s.0))
marked_behind n ((x ∷ q) ∷ ps) p s = ap (λ (qs : List Plan). (x ∷ q) ∷ qs) (marked_behind n ps p s.1)

pub behind_all : (n : ℕ) (run : List ℕ) → behind [] (plans_in n run) ≡ plans_in n run
behind_all zero run = rw (plans_none 0 run refl) refl
behind_all (suc n) run = marked_behind (suc n) (plans_in (suc n) run) (omega arith) (plans_sized (suc n) run)

into_behind : {q : Plan} (last : Plan) (ps : List Plan) → In q ps → less last q ≡ true → In q (behind last ps)
into_behind {q = q} last [] x'' l = elim x'' [ ]
into_behind last (p ∷ ps) first l = rw l first
into_behind {q} last (p ∷ ps) (later i) l = go (less last p) (into_behind last ps i l)
  where
    go : (t : Bool) → In q (behind last ps) → In q (cond t (p ∷ behind last ps) (behind last ps))
    go true j = later j
    go false j = j

out_of_behind : {q : Plan} (last : Plan) (ps : List Plan) → In q (behind last ps) → In q ps × (less last q ≡ true)
out_of_behind last [] i = in_none i
out_of_behind {q} last (p ∷ ps) i = go (less last p) refl i (out_of_behind last ps)
  where
    on : In q ps × (less last q ≡ true) → In q (p ∷ ps) × (less last q ≡ true)
    on (j, l) = (later j, l)

    at : less last p ≡ true → (q ≡ p) ⊎ In q (behind last ps) → (In q (behind last ps) → In q ps × (less last q ≡ true)) → In q (p ∷ ps) × (less last q ≡ true)
    at u (inl e) ih = rw e (first, u)
    at u (inr j) ih = on (ih j)

    go : (t : Bool) → less last p ≡ t → In q (cond t (p ∷ behind last ps) (behind last ps)) → (In q (behind last ps) → In q ps × (less last q ≡ true))
        → In q (p ∷ ps) × (less last q ≡ true)
    go true u j ih = at u (in_cons j) ih
    go false u j ih = on (ih j)

-- ── what is found is first in order ──
-- one of some plans, before which none of them comes
record FirstIn (r : Plan) (qs : List Plan) : Type 0 where
  stands : In r qs
  ahead : (q : Plan) → In q qs → less q r ≡ false

found : (best : Plan) (qs : List Plan) → FirstIn (fold first_of_two best qs) (best ∷ qs)
found best [] = record { stands = first; ahead = λ q i. only q (in_cons i) }
  where
    only : (q : Plan) → (q ≡ best) ⊎ In q [] → less q best ≡ false
    only q (inl e) = rw e (irreflexive best)
    only q (inr i) = in_none i
found best (p ∷ qs) = go (less p best) refl (found p qs) (found best qs)
  where
    -- p comes before the best so far, so what p does not come behind, the best does not either
    passed : less p best ≡ true → FirstIn (fold first_of_two p qs) (p ∷ qs) → (q : Plan) → (q ≡ best) ⊎ In q (p ∷ qs) → less q (fold first_of_two p qs) ≡ false
    passed u f q (inl e) = rw e (not_after (fold first_of_two p qs) p best (f.ahead p first) (fails (λ t. one_way p best u t)))
    passed u f q (inr i) = f.ahead q i

    later_stands : {r : Plan} → (r ≡ best) ⊎ In r qs → In r (best ∷ p ∷ qs)
    later_stands (inl e) = rw e first
    later_stands (inr i) = later (later i)

    kept : less p best ≡ false → FirstIn (fold first_of_two best qs) (best ∷ qs) → (q : Plan) → (q ≡ p) ⊎ In q qs → less q (fold first_of_two best qs) ≡ false
    kept u f q (inl e) = rw e (not_after (fold first_of_two best qs) best p (f.ahead best first) u)
    kept u f q (inr i) = f.ahead q (later i)

    still : less p best ≡ false → FirstIn (fold first_of_two best qs) (best ∷ qs) → (q : Plan) → (q ≡ best) ⊎ In q (p ∷ qs) → less q (fold first_of_two best qs) ≡ false
    still u f q (inl e) = rw e (f.ahead best first)
    still u f q (inr i) = kept u f q (in_cons i)

    go : (t : Bool) → less p best ≡ t → FirstIn (fold first_of_two p qs) (p ∷ qs) → FirstIn (fold first_of_two best qs) (best ∷ qs) → FirstIn (fold first_of_two (cond t p best) qs) (best ∷ p ∷ qs)
    go true u f g = record { stands = later f.stands; ahead = λ q i. passed u f q (in_cons i) }
    go false u f g = record { stands = later_stands (in_cons g.stands); ahead = λ q i. still u g q (in_cons i) }

first_is : (qs : List Plan) (r : Plan) → Some r ≡ first_of qs → FirstIn r qs
first_is [] r e = absurd (none-some r (sym e))
first_is (q ∷ qs) r e = rw (same_Some _ _ e) (found q qs)

-- ── the plans in order ──
-- plans in order are known by which they are
same_order : (ps qs : List Plan) → ((q : Plan) → In q ps → In q qs) → ((q : Plan) → In q qs → In q ps) → in_order ps ≡ in_order qs
same_order ps qs f g =
    rising_only (in_order ps) (in_order qs) (ordered ps) (ordered qs) (λ q i. into_order qs (f q (out_of_order ps i))) (λ q i. into_order ps (g q (out_of_order qs i)))

place_front : (r : Plan) (qs : List Plan) → ((q : Plan) → In q qs → less r q ≡ true) → place r qs ≡ r ∷ qs
unfolding place place_by
place_front r [] f = refl
place_front r (q ∷ qs) f = rw (f q first) refl

module _ (last : Plan) (ps : List Plan) where
  pub next_none : None ≡ first_of (behind last ps) → behind last ps ≡ []
  next_none e = go (behind last ps) e
    where
      go : (qs : List Plan) → None ≡ first_of qs → qs ≡ []
      go [] e = refl
      go (q ∷ qs) e = absurd (none-some (fold first_of_two q qs) e)

  pub next_order : (next : Plan) → Some next ≡ first_of (behind last ps) → in_order (behind last ps) ≡ next ∷ in_order (behind next ps)
  unfolding in_order
  next_order next told =
      same_order (behind last ps) (next ∷ behind next ps) (λ q i. to q i (test (less next q))) (λ q i. from q (in_cons i))
      ∙ place_front next (in_order (behind next ps)) (λ q i. (out_of_behind next ps (out_of_order (behind next ps) i)).1)
    where
      f : FirstIn next (behind last ps)
      f = first_is (behind last ps) next told

      to : (q : Plan) → In q (behind last ps) → (less next q ≡ true) ⊎ (less next q ≡ false) → In q (next ∷ behind next ps)
      to q i (inl u) = later (into_behind next ps (out_of_behind last ps i).0 u)
      to q i (inr u) = rw (total q next (f.ahead q i) u) first

      from : (q : Plan) → (q ≡ next) ⊎ In q (behind next ps) → In q (behind last ps)
      from q (inl e) = rw e f.stands
      from q (inr i) =
          into_behind last ps (out_of_behind next ps i).0
          (transitive last next q (out_of_behind last ps f.stands).1 (out_of_behind next ps i).1)
