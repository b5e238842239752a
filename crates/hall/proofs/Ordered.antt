-- Plans put in order: they rise, each of them once, and they are the plans given.
--
-- In order: a list that rises (`Rising`), whose first plan comes before each of the others (`rising_ahead`); what stands in a list after
-- a plan is placed in it (`placed`, `place_here`, `place_keeps`), which rises still (`place_rising`). The claims: plans in order rise
-- (`ordered`) and are the same plans (`into_order`, `out_of_order`); two lists that rise and have the same plans are one (`rising_only`);
-- plans no two of which are the same (`Distinct`, `distinct_last`) are as many in order (`ordered_length`). Assumes nothing.
use mathlib.Core.Path.{◌≡◌, refl, sym, ◌∙◌, ap}
use mathlib.Core.Logic.{◌⊎◌, inl, inr, ⊎_elim, ⊎_map}
use mathlib.Core.Bool.{Bool, true, false}
use mathlib.Core.List.{List, [], ◌∷◌, ◌++◌}
use Prim.Native.Nat.{suc}
use lib.ListN.{length}
use Rattle.lists.specs.Lists.{In, first, later}
use Rattle.hall.specs.Hall.{Plan}
use Rattle.hall.specs.Order.{less}
use Rattle.hall.specs.Ties.{place_by, place, in_order}
use Rattle.lists.proofs.Cases.{both}
use Rattle.lists.proofs.In.{in_none, in_cons, in_last}
use Rattle.hall.proofs.Order.{irreflexive, one_way, total, transitive}

-- each comes strictly before the next
abbrev pub Rising : List Plan → Type 0
Rising [] = Unit {0}
Rising (p ∷ []) = Unit {0}
Rising (p ∷ q ∷ ps) = (less p q ≡ true) × Rising (q ∷ ps)

rising_rest : (p : Plan) (ps : List Plan) → Rising (p ∷ ps) → Rising ps
rising_rest p [] r = tt
rising_rest p (q ∷ ps) r = r.1

-- so it comes before all that stand behind it
rising_ahead : {q : Plan} (p : Plan) (ps : List Plan) → Rising (p ∷ ps) → In q ps → less p q ≡ true
rising_ahead {q = q} p [] r x'' = elim x'' [ ]
rising_ahead p (q ∷ ps) r first = r.0
rising_ahead {q} p (o ∷ ps) r (later i) = transitive p o q r.0 (rising_ahead o ps r.1 i)

rising_behind : (p : Plan) (ps : List Plan) → ((q : Plan) → In q ps → less p q ≡ true) → Rising ps → Rising (p ∷ ps)
rising_behind p [] a r = tt
rising_behind p (q ∷ ps) a r = (a q first, r)

-- ── one plan placed ──
placed : {r : Plan} (p : Plan) (ps : List Plan) → In r (place p ps) → (r ≡ p) ⊎ In r ps
unfolding place place_by
placed p [] i = in_cons i
placed {r} p (q ∷ qs) i = go (less p q) (less q p) i (placed p qs)
  where
    go : (s t : Bool) → In r (place_by s t p q qs (place p qs)) → (In r (place p qs) → (r ≡ p) ⊎ In r qs) → (r ≡ p) ⊎ In r (q ∷ qs)
    go true t i ih = in_cons i
    go false true i ih = ⊎_elim (λ e. inr (rw e first)) (λ j. ⊎_map (λ e. e) later (ih j)) (in_cons i)
    go false false i ih = inr i

place_here : (p : Plan) (ps : List Plan) → In p (place p ps)
unfolding place place_by
place_here p [] = first
place_here p (q ∷ qs) = go (less p q) (less q p) refl refl (place_here p qs)
  where
    go : (s t : Bool) → less p q ≡ s → less q p ≡ t → In p (place p qs) → In p (place_by s t p q qs (place p qs))
    go true t u v ih = first
    go false true u v ih = later ih
    go false false u v ih = rw (total p q u v) first

place_keeps : {r : Plan} (p : Plan) (ps : List Plan) → In r ps → In r (place p ps)
unfolding place place_by
place_keeps {r = r} p [] i = elim i [ ]
place_keeps {r} p (q ∷ qs) i = go (less p q) (less q p) i (in_cons i) (place_keeps p qs)
  where
    go : (s t : Bool) → In r (q ∷ qs) → (r ≡ q) ⊎ In r qs → (In r qs → In r (place p qs)) → In r (place_by s t p q qs (place p qs))
    go true t i j ih = later i
    go false true i (inl e) ih = rw e first
    go false true i (inr j) ih = later (ih j)
    go false false i j ih = i

place_rising : (p : Plan) (ps : List Plan) → Rising ps → Rising (place p ps)
unfolding place place_by
place_rising p [] r = tt
place_rising p (q ∷ qs) r = go (less p q) (less q p) refl refl (place_rising p qs (rising_rest q qs r))
  where
    go : (s t : Bool) → less p q ≡ s → less q p ≡ t → Rising (place p qs) → Rising (place_by s t p q qs (place p qs))
    go true t u v ih = (u, r)
    go false true u v ih = rising_behind q (place p qs) (λ o i. ⊎_elim (λ e. rw e v) (rising_ahead q qs r) (placed p qs i)) ih
    go false false u v ih = r

place_length : (p : Plan) (ps : List Plan) → (In p ps → ⊥) → length (place p ps) ≡ suc (length ps)
unfolding place place_by
place_length p [] n = refl
place_length p (q ∷ qs) n = go (less p q) (less q p) refl refl (place_length p qs (λ i. n (later i)))
  where
    go : (s t : Bool) → less p q ≡ s → less q p ≡ t → length (place p qs) ≡ suc (length qs) → length (place_by s t p q qs (place p qs)) ≡ suc (suc (length qs))
    go true t u v ih = refl
    go false true u v ih = ap suc ih
    go false false u v ih = absurd (n (rw (total p q u v) first))

-- ── the claims ──
pub ordered : (ps : List Plan) → Rising (in_order ps)
unfolding in_order
ordered [] = tt
ordered (p ∷ ps) = place_rising p (in_order ps) (ordered ps)

pub into_order : {q : Plan} (ps : List Plan) → In q ps → In q (in_order ps)
unfolding in_order
into_order {q = q} [] x' = elim x' [ ]
into_order (q ∷ ps) first = place_here q (in_order ps)
into_order (p ∷ ps) (later i) = place_keeps p (in_order ps) (into_order ps i)

pub out_of_order : {q : Plan} (ps : List Plan) → In q (in_order ps) → In q ps
unfolding in_order
out_of_order {q = q} [] i = elim i [ ]
out_of_order (p ∷ ps) i = ⊎_elim (λ e. rw e first) (λ j. later (out_of_order ps j)) (placed p (in_order ps) i)

-- the first of each list stands in the other, so neither comes before the other; so with the rest
pub rising_only : (ps qs : List Plan) → Rising ps → Rising qs → ((q : Plan) → In q ps → In q qs) → ((q : Plan) → In q qs → In q ps) → ps ≡ qs
rising_only [] [] r s f g = refl
rising_only [] (q ∷ qs) r s f g = in_none (g q first)
rising_only (p ∷ ps) [] r s f g = in_none (f p first)
rising_only (p ∷ ps) (q ∷ qs) r s f g =
    let e = meet (in_cons (f p first)) (in_cons (g q first)) in
    let t = rising_only ps qs (rising_rest p ps r) (rising_rest q qs s)
    (λ o i. behind e (rising_ahead p ps r i) (in_cons (f o (later i))))
    (λ o i. behind (sym e) (rising_ahead q qs s i) (in_cons (g o (later i)))) in
    cc
  where
    meet : (p ≡ q) ⊎ In p qs → (q ≡ p) ⊎ In q ps → p ≡ q
    meet (inl e) j = e
    meet (inr i) (inl e) = sym e
    meet (inr i) (inr j) = absurd (one_way p q (rising_ahead p ps r j) (rising_ahead q qs s i))

    behind : {a b o : Plan} {os : List Plan} → a ≡ b → less a o ≡ true → (o ≡ b) ⊎ In o os → In o os
    behind {a} {b} e l (inl u) = both l (rw (e, u) (irreflexive b))
    behind e l (inr i) = i

-- no plan stands in it twice
abbrev pub Distinct : List Plan → Type 0
Distinct [] = Unit {0}
Distinct (p ∷ ps) = (In p ps → ⊥) × Distinct ps

pub distinct_last : {p : Plan} (ps : List Plan) → Distinct ps → (In p ps → ⊥) → Distinct (ps ++ (p ∷ []))
distinct_last [] d n = (in_none, tt)
distinct_last (q ∷ ps) d n = (λ i. ⊎_elim d.0 (λ e. n (rw e first)) (in_last ps i), distinct_last ps d.1 (λ i. n (later i)))

pub ordered_length : (ps : List Plan) → Distinct ps → length (in_order ps) ≡ length ps
unfolding in_order
ordered_length [] d = refl
ordered_length (p ∷ ps) d = place_length p (in_order ps) (λ i. d.0 (out_of_order ps i)) ∙ ap suc (ordered_length ps d.1)
