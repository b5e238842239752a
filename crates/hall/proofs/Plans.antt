-- A plan that extends another: it holds what that one holds, and maybe more.
--
-- In order: `Extends`; what extends costs no less and holds more unless it is the same (`cost_mono`, `held_mono`, `held_more`),
-- so the plan is lower (`dearer`) and what extends it is not better (`extended`); every plan extends the one that holds nothing
-- (`extends_none`); holding a free device as the other plan holds it (`extends_hold`, `held_or_free`); the laws of `hold` on a free device
-- (`hold_held`, `hold_holds`, `hold_extends`, `hold_length`, `hold_apart`); plans of a hall (`start_plan`, `start_extended`, `hold_plan`).
-- Assumes nothing.
use mathlib.Core.Path.{◌≡◌, refl, ◌∙◌, subst}
use mathlib.Core.Logic.{◌⊎◌, inl, inr, ⊎_elim, ⊎_map, ◌≢◌}
use mathlib.Core.Bool.{true, false}
use mathlib.Core.List.{List, [], ◌∷◌}
use Prim.Native.Nat.{ℕ, zero, suc, ◌≤◌, ◌<◌, zero-le}
use native.Mathlib.Omega.{arith}
use lib.ListN.{get_or, set, length, replicate, length-replicate, length-set}
use lib.Seq.{get_or-set_other}
use borrow.Author.Tests.{eqb-true, eq-eqb}
use Rattle.hall.specs.Hall.{Entry, at1, at0, device, mark, Hall, Plan, PlanOf, holds, is_free, hold}
use Rattle.hall.specs.Order.{if_held, cost_of, held_of, better}
use Rattle.hall.specs.Walk.{start}
use Rattle.hall.specs.Ties.{lower}
use Rattle.hall.proofs.Order.{better_irreflexive}
use Rattle.hall.proofs.Lower.{fewer_lower, lower_not_better}

pub data Extends : Plan → Plan → Type 0 where
  end : Extends [] []
  free : {y : ℕ} {p q : Plan} → Extends p q → Extends (0 ∷ p) (y ∷ q)
  same : {x : ℕ} {p q : Plan} → Extends p q → Extends (x ∷ p) (x ∷ q)

pub cost_mono : (cs : List ℕ) {p q : Plan} → Extends p q → cost_of cs p ≤ cost_of cs q
unfolding cost_of if_held
cost_mono [] e = zero-le
cost_mono (c ∷ cs) end = zero-le
cost_mono (c ∷ cs) (free e) = omega (arith, cost_mono cs e)
cost_mono (c ∷ cs) (same e) = omega (arith, cost_mono cs e)

pub held_mono : {p q : Plan} → Extends p q → held_of p ≤ held_of q
unfolding held_of if_held
held_mono end = zero-le
held_mono (free e) = omega (arith, held_mono e)
held_mono (same e) = omega (arith, held_mono e)

pub held_more : {p q : Plan} → Extends p q → (p ≡ q) ⊎ (held_of p < held_of q)
unfolding held_of if_held
held_more end = inl refl
held_more (free {y = zero} {p} {q} e) = go (held_more e)
  where
    go : (p ≡ q) ⊎ (held_of p < held_of q) → (◌≡◌ {A = Plan} (0 ∷ p) (0 ∷ q)) ⊎ (held_of (0 ∷ p) < held_of (0 ∷ q))
    go (inl h) = inl cc
    go (inr h) = inr (omega arith)
held_more (free {y = suc y} e) = inr (omega (arith, held_mono e))
held_more (same {x} {p} {q} e) = go (held_more e)
  where
    go : (p ≡ q) ⊎ (held_of p < held_of q) → (◌≡◌ {A = Plan} (x ∷ p) (x ∷ q)) ⊎ (held_of (x ∷ p) < held_of (x ∷ q))
    go (inl h) = inl cc
    go (inr h) = inr (omega arith)

-- a plan is lower than each other one that extends it; so none of them is better
pub dearer : (cs : List ℕ) {p q : Plan} → Extends p q → (p ≡ q) ⊎ (lower cs p q ≡ true)
dearer cs {p} {q} e = ⊎_map (λ h. h) (fewer_lower cs p q (cost_mono cs e)) (held_more e)

pub extended : (cs : List ℕ) {p q : Plan} → Extends p q → better cs q p ≡ false
extended cs {p} {q} e = ⊎_elim (λ h. rw h (better_irreflexive cs q)) (lower_not_better cs p q) (dearer cs e)

-- every plan extends the one that holds nothing; it stays extended where a free device is held as the other plan holds it
pub extends_refl : (p : Plan) → Extends p p
extends_refl [] = end
extends_refl (x ∷ p) = same (extends_refl p)

extends_none : (q : Plan) → Extends (replicate (length q) 0) q
extends_none [] = end
extends_none (y ∷ q) = free (extends_none q)

extends_set : {p q : Plan} → Extends p q → (i m : ℕ) → get_or p i 1 ≡ 0 → get_or q i 0 ≡ m → Extends (set p i m) q
extends_set end i m f h = end
extends_set (free {y} {p} {q} e) zero m f h = rw (← h) (same e)
extends_set (free e) (suc i) m f h = free (extends_set e i m f h)
extends_set (same {x} {p} {q} e) zero m f h = rw (← h) (same e)
extends_set (same e) (suc i) m f h = same (extends_set e i m f h)

pub extends_hold : {p q : Plan} (e : Entry) → Extends p q → is_free p e ≡ true → holds q e ≡ true → Extends (hold p e) q
unfolding is_free holds hold
extends_hold e x f h = extends_set x (device e) (mark e) (eqb-true _ _ f) (eqb-true _ _ h)

-- where a plan extends another, what that one holds it holds; what it holds and that one does not is free there
extends_at : {p q : Plan} → Extends p q → (i m : ℕ) → get_or q i 0 ≡ suc m → (get_or p i 1 ≡ 0) ⊎ (get_or p i 0 ≡ suc m)
extends_at end i m h = inr h
extends_at (free e) zero m h = inl refl
extends_at (free e) (suc i) m h = extends_at e i m h
extends_at (same e) zero m h = inr h
extends_at (same e) (suc i) m h = extends_at e i m h

pub held_or_free : {p q : Plan} (e : Entry) → Extends p q → holds q e ≡ true → (is_free p e ≡ true) ⊎ (holds p e ≡ true)
unfolding is_free holds
held_or_free {p} {q} (at1 v) x h = go (extends_at x v 0 (eqb-true _ _ h))
  where
    go : (get_or p v 1 ≡ 0) ⊎ (get_or p v 0 ≡ 1) → (is_free p (at1 v) ≡ true) ⊎ (holds p (at1 v) ≡ true)
    go (inl u) = inl (eq-eqb _ _ u)
    go (inr u) = inr (eq-eqb _ _ u)
held_or_free {p} {q} (at0 v) x h = go (extends_at x v 1 (eqb-true _ _ h))
  where
    go : (get_or p v 1 ≡ 0) ⊎ (get_or p v 0 ≡ 2) → (is_free p (at0 v) ≡ true) ⊎ (holds p (at0 v) ≡ true)
    go (inl u) = inl (eq-eqb _ _ u)
    go (inr u) = inr (eq-eqb _ _ u)

-- holding a free device: one more is held, it is held as the entry says, the plan extends
set_free : (p : Plan) (i m : ℕ) → get_or p i 1 ≡ 0 → (held_of (set p i (suc m)) ≡ suc (held_of p)) × (get_or (set p i (suc m)) i 0 ≡ suc m) × Extends p (set p i (suc m))
unfolding held_of if_held
set_free [] i m h = absurd (omega arith)
set_free (x ∷ p) zero m h = (rw h (omega arith), refl, rw h (free (extends_refl p)))
set_free (x ∷ p) (suc i) m h = let s = set_free p i m h in (omega arith, s.1, same s.2)

pub hold_held : (p : Plan) (e : Entry) → is_free p e ≡ true → held_of (hold p e) ≡ suc (held_of p)
unfolding is_free hold
hold_held p (at1 v) h = (set_free p v 0 (eqb-true _ _ h)).0
hold_held p (at0 v) h = (set_free p v 1 (eqb-true _ _ h)).0

pub hold_holds : (p : Plan) (e : Entry) → is_free p e ≡ true → holds (hold p e) e ≡ true
unfolding is_free hold holds
hold_holds p (at1 v) h = eq-eqb _ _ (set_free p v 0 (eqb-true _ _ h)).1
hold_holds p (at0 v) h = eq-eqb _ _ (set_free p v 1 (eqb-true _ _ h)).1

pub hold_extends : (p : Plan) (e : Entry) → is_free p e ≡ true → Extends p (hold p e)
unfolding is_free hold
hold_extends p (at1 v) h = (set_free p v 0 (eqb-true _ _ h)).2
hold_extends p (at0 v) h = (set_free p v 1 (eqb-true _ _ h)).2

pub hold_length : (p : Plan) (e : Entry) → length (hold p e) ≡ length p
unfolding hold
hold_length p e = length-set p (device e) (mark e)

pub held_all : (p : Plan) → held_of p ≤ length p
unfolding held_of if_held
held_all [] = zero-le
held_all (zero ∷ p) = omega (arith, held_all p)
held_all (suc x ∷ p) = omega (arith, held_all p)

-- another device than the one held is as free as before
pub hold_apart : (p : Plan) (e d : Entry) → device d ≢ device e → is_free p d ≡ true → is_free (hold p e) d ≡ true
unfolding is_free hold
hold_apart p e d n f = rw (get_or-set_other p (device e) (device d) (mark e) 1 n) f

-- ── plans of a hall ──
start_marks : (n v : ℕ) → get_or (replicate n 0) v 0 ≤ 2
start_marks zero v = zero-le
start_marks (suc n) zero = zero-le
start_marks (suc n) (suc v) = start_marks n v

pub start_plan : (h : Hall) → PlanOf h (start h)
unfolding start
start_plan h = record { size = length-replicate (length h.costs) 0; marks = start_marks (length h.costs) }

pub start_extended : (h : Hall) (q : Plan) → PlanOf h q → Extends (start h) q
unfolding start
start_extended h q k = subst (λ (n : ℕ). Extends (replicate n 0) q) k.size (extends_none q)

pub start_held : (n : ℕ) → held_of (replicate n 0) ≡ 0
unfolding held_of if_held
start_held zero = refl
start_held (suc n) = omega (arith, start_held n)

set_marks : (p : Plan) → ((v : ℕ) → get_or p v 0 ≤ 2) → (d m : ℕ) → m ≤ 2 → (v : ℕ) → get_or (set p d m) v 0 ≤ 2
set_marks [] s d m l v = s v
set_marks (x ∷ p) s zero m l zero = l
set_marks (x ∷ p) s zero m l (suc v) = s (suc v)
set_marks (x ∷ p) s (suc d) m l zero = s zero
set_marks (x ∷ p) s (suc d) m l (suc v) = set_marks p (λ j. s (suc j)) d m l v

mark_small : (e : Entry) → mark e ≤ 2
mark_small (at1 v) = omega arith
mark_small (at0 v) = omega arith

pub hold_plan : {h : Hall} (p : Plan) (e : Entry) → PlanOf h p → PlanOf h (hold p e)
unfolding hold
hold_plan p e k = record { size = length-set p (device e) (mark e) ∙ k.size; marks = set_marks p k.marks (device e) (mark e) (mark_small e) }
