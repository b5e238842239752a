-- 02, request 5: the list of a hall has all the plans that equal the least one in cost and held number, best first, each once and none
-- left out; and no other list has.
--
-- In order: the plans of a list that meet every rule and tie with p (`into_ties`, `out_of_ties`); of plans that all have the numbers of
-- p, 01's order is that of their marks (`rising_ranked`, `ranked_rising`). The claims: `all_ties`, since the walk opens each of them
-- (`tie_opened`), and `all_ties_only`. Assumes nothing.
use mathlib.Core.Path.{◌≡◌, refl, sym, ◌∙◌}
use mathlib.Core.Logic.{⊎_elim}
use mathlib.Core.Bool.{Bool, true, false, cond, ◌&&◌}
use mathlib.Core.List.{List, [], ◌∷◌}
use Prim.Native.Nat.{ℕ}
use Rattle.lists.specs.Lists.{In, first, later}
use Rattle.hall.specs.Hall.{Hall, Plan, meets_all}
use Rattle.hall.specs.Order.{cost_of, held_of, less, better, MeetsSheet}
use Rattle.hall.specs.Walk.{so_far, walk_hall}
use Rattle.hall.specs.Ties.{ties, tying, in_order, equal_to}
use Rattle.hall.specs.Listing.{Ranked, AllTies}
use Rattle.lists.proofs.Cases.{and_both}
use Rattle.lists.proofs.In.{in_cons}
use Rattle.hall.proofs.Lower.{ties_numbers, numbers_tie, level_better}
use Rattle.hall.proofs.Ordered.{Rising, ordered, into_order, out_of_order, rising_only}
use Rattle.hall.proofs.Opened.{opened_plan, tie_opened}

-- ── those that tie ──
module _ (h : Hall) (p : Plan) where
  -- a plan that meets every rule and ties with p
  abbrev pub Ties : Plan → Type 0
  Ties q = (meets_all q h.rules ≡ true) × (ties h.costs q p ≡ true)

  pub into_ties : {q : Plan} (qs : List Plan) → In q qs → Ties q → In q (tying h p qs)
  unfolding tying
  into_ties {q = q} [] x'' t = elim x'' [ ]
  into_ties (q ∷ qs) first t = rw (t.0, t.1) first
  into_ties {q} (o ∷ qs) (later i) t = go (meets_all o h.rules && ties h.costs o p) (into_ties qs i t)
    where
      go : (b : Bool) → In q (tying h p qs) → In q (cond b (o ∷ tying h p qs) (tying h p qs))
      go true j = later j
      go false j = j

  pub out_of_ties : {q : Plan} (qs : List Plan) → In q (tying h p qs) → In q qs × Ties q
  unfolding tying
  out_of_ties {q = q} [] i = elim i [ ]
  out_of_ties {q} (o ∷ qs) i = go (meets_all o h.rules && ties h.costs o p) (and_both (meets_all o h.rules) (ties h.costs o p)) i (out_of_ties qs)
    where
      go : (b : Bool) → (b ≡ true → Ties o) → In q (cond b (o ∷ tying h p qs) (tying h p qs)) → (In q (tying h p qs) → In q qs × Ties q) → In q (o ∷ qs) × Ties q
      go true t j ih = ⊎_elim (λ e. rw e (first, t refl)) (λ i. let r = ih i in (later r.0, r.1)) (in_cons j)
      go false t j ih = let r = ih j in (later r.0, r.1)

-- ── one order ──
module _ (cs : List ℕ) (p : Plan) where
  abbrev Level : List Plan → Type 0
  Level qs = (q : Plan) → In q qs → (cost_of cs q ≡ cost_of cs p) × (held_of q ≡ held_of p)

  marks_decide : (q o : Plan) (qs : List Plan) → Level (q ∷ o ∷ qs) → better cs q o ≡ less q o
  marks_decide q o qs l =
      let a = l q first in
      let b = l o (later first) in
      level_better cs q o (a.0 ∙ sym b.0) (a.1 ∙ sym b.1)

  rising_ranked : (qs : List Plan) → Level qs → Rising qs → Ranked cs qs
  rising_ranked [] l r = tt
  rising_ranked (q ∷ []) l r = tt
  rising_ranked (q ∷ o ∷ qs) l r = (marks_decide q o qs l ∙ r.0, rising_ranked (o ∷ qs) (λ n i. l n (later i)) r.1)

  ranked_rising : (qs : List Plan) → Level qs → Ranked cs qs → Rising qs
  ranked_rising [] l r = tt
  ranked_rising (q ∷ []) l r = tt
  ranked_rising (q ∷ o ∷ qs) l r = (sym (marks_decide q o qs l) ∙ r.0, ranked_rising (o ∷ qs) (λ n i. l n (later i)) r.1)

-- ── the claims ──
pub all_ties : (h : Hall) (p : Plan) → (walk_hall h).best ≡ so_far p → AllTies MeetsSheet h p (equal_to h p)
unfolding equal_to
all_ties h p e = record {
  every = λ q m same-cost same-held. into_order (tying h p opened) (into_ties h p opened (tie_opened h p q e m same-cost same-held) (m.meets, numbers_tie h.costs q p same-cost same-held));
  only = only;
  ranked = rising_ranked h.costs p (equal_to h p) (λ q i. let o = only q i in (o.1, o.2)) (ordered (tying h p opened));
}
  where
    opened : List Plan
    opened = (walk_hall h).plans

    only : (q : Plan) → In q (in_order (tying h p opened)) → MeetsSheet h q × (cost_of h.costs q ≡ cost_of h.costs p) × (held_of q ≡ held_of p)
    only q i =
        let o = out_of_ties h p opened (out_of_order (tying h p opened) i) in
        let n = ties_numbers h.costs q p o.1.1 in
        (record { plan = opened_plan h q o.0; meets = o.1.0 }, n.0, n.1)

pub all_ties_only : (Meets : Hall → Plan → Type 0) (h : Hall) (p : Plan) (ps qs : List Plan) → AllTies Meets h p ps → AllTies Meets h p qs → ps ≡ qs
all_ties_only Meets h p ps qs a b = rising_only ps qs (rising ps a) (rising qs b) (into ps qs a b) (into qs ps b a)
  where
    rising : (os : List Plan) → AllTies Meets h p os → Rising os
    rising os t = ranked_rising h.costs p os (λ q i. let o = t.only q i in (o.1, o.2)) t.ranked

    into : (os ns : List Plan) → AllTies Meets h p os → AllTies Meets h p ns → (q : Plan) → In q os → In q ns
    into os ns t u q i = let o = t.only q i in u.every q o.0 o.1 o.2
