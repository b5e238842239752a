-- Rules in which no device is written twice, and what holding one of their devices does to them.
--
-- In order: from `once` over all entries to each rule and all rules after it (`apart_alone`); each rule is met or wholly free (`Fit`),
-- at the start (`start_fit`) and after a hold of the first unmet rule, which meets that rule alone (`fit_hold`); the first
-- unmet rule is wholly free (`first_free`). Assumes nothing.
use mathlib.Core.Path.{◌≡◌, refl, ap}
use mathlib.Core.Logic.{◌⊎◌, inl, inr, ◌≢◌}
use mathlib.Core.Bool.{true, false, not}
use mathlib.Core.List.{List, [], ◌∷◌, ◌++◌}
use Prim.Native.Nat.{ℕ, suc, ◌<◌}
use native.Mathlib.Omega.{arith}
use lib.ListN.{length, replicate, get_or-replicate}
use lib.Dec.{eqb}
use borrow.Author.Tests.{eqb-false, not-true}
use Rattle.hall.specs.Hall.{Entry, device, Rule, Plan, is_free, hold, meets_rule, meets_all, first_unmet}
use Rattle.lists.specs.Lists.{Each, In, first, later}
use Rattle.hall.specs.Ranges.{RuleInRange}
use Rattle.hall.specs.Bound.{entries, absent, once}
use Rattle.lists.proofs.Cases.{test, both, and_both}
use Rattle.hall.proofs.Plans.{hold_extends, hold_apart}
use Rattle.hall.proofs.Rules.{AllFree, meets_mono, hold_meets, free_unmet}
use Rattle.hall.proofs.Unmet.{unmet}

-- no entry here is of e's device
abbrev Away : Entry → List Entry → Type 0
Away e es = Each (λ d. device d ≢ device e) es

-- each rule names a device at most once, and none of a later rule
abbrev pub Alone : List Rule → Type 0
Alone [] = Unit {0}
Alone (r ∷ rs) = (once r ≡ true) × ((e : Entry) → In e r → Each (Away e) rs) × Alone rs

-- ── from `once` ──
away : (e : Entry) (es : List Entry) → absent (device e) es ≡ true → Away e es
unfolding absent
away e [] h = tt
away e (d ∷ ds) h =
    let a = and_both (not (eqb (device d) (device e))) (absent (device e) ds) h in
    (eqb-false _ _ (not-true _ a.0), away e ds a.1)

away_split : (e : Entry) (r s : List Entry) → Away e (r ++ s) → Away e r × Away e s
away_split e [] s a = (tt, a)
away_split e (d ∷ r) s a = let b = away_split e r s a.1 in ((a.0, b.0), b.1)

away_rules : (e : Entry) (rs : List Rule) → Away e (entries rs) → Each (Away e) rs
unfolding entries
away_rules e [] a = tt
away_rules e (r ∷ rs) a = let b = away_split e r (entries rs) a in (b.0, away_rules e rs b.1)

absent_left : (v : ℕ) (r s : List Entry) → absent v (r ++ s) ≡ true → absent v r ≡ true
unfolding absent
absent_left v [] s h = refl
absent_left v (e ∷ r) s h = let a = and_both (not (eqb (device e) v)) (absent v (r ++ s)) h in rw a.0 (absent_left v r s a.1)

once_left : (r s : List Entry) → once (r ++ s) ≡ true → once r ≡ true
unfolding once
once_left [] s h = refl
once_left (e ∷ r) s h = let a = and_both (absent (device e) (r ++ s)) (once (r ++ s)) h in rw (absent_left (device e) r s a.0) (once_left r s a.1)

once_right : (r s : List Entry) → once (r ++ s) ≡ true → once s ≡ true
unfolding once
once_right [] s h = h
once_right (e ∷ r) s h = once_right r s (and_both (absent (device e) (r ++ s)) (once (r ++ s)) h).1

once_away : (r s : List Entry) → once (r ++ s) ≡ true → (e : Entry) → In e r → Away e s
unfolding once
once_away [] s h e x'' = elim x'' [ ]
once_away (d ∷ r) s h e first = (away_split e r s (away e (r ++ s) (and_both (absent (device e) (r ++ s)) (once (r ++ s)) h).0)).1
once_away (d ∷ r) s h e (later i) = once_away r s (and_both (absent (device d) (r ++ s)) (once (r ++ s)) h).1 e i

pub apart_alone : (rs : List Rule) → once (entries rs) ≡ true → Alone rs
unfolding entries
apart_alone [] h = tt
apart_alone (r ∷ rs) h = (once_left r (entries rs) h, λ e i. away_rules e rs (once_away r (entries rs) h e i), apart_alone rs (once_right r (entries rs) h))

-- ── each rule is met, or wholly free ──
abbrev pub Fit : Plan → List Rule → Type 0
Fit p rs = Each (λ r. (meets_rule p r ≡ true) ⊎ AllFree p r) rs

start_free : (n : ℕ) (r : Rule) → Each (λ e. device e < n) r → AllFree (replicate n 0) r
unfolding is_free
start_free n [] b = tt
start_free n (e ∷ r) b = (rw (get_or-replicate {A = ℕ} n (device e) 0 1 b.0), start_free n r b.1)

pub start_fit : (n : ℕ) (rs : List Rule) → Alone rs → Each (RuleInRange n) rs → Fit (replicate n 0) rs × (unmet (replicate n 0) rs ≡ length rs)
unfolding unmet
start_fit n [] a b = (tt, refl)
start_fit n (r ∷ rs) a b =
    let f = start_free n r b.0.named in
    let g = start_fit n rs a.2 b.1 in
    ((inr f, g.0), rw (free_unmet (replicate n 0) r a.0 f) (ap suc g.1))

all_away : (p : Plan) (e : Entry) (r : Rule) → Away e r → AllFree p r → AllFree (hold p e) r
all_away p e [] a f = tt
all_away p e (d ∷ ds) a f = (hold_apart p e d a.0 f.0, all_away p e ds a.1 f.1)

-- holding a device that stands in none of the rules
fit_away : (p : Plan) (e : Entry) → is_free p e ≡ true → (rs : List Rule) → Alone rs → Each (Away e) rs → Fit p rs → Fit (hold p e) rs × (unmet (hold p e) rs ≡ unmet p rs)
unfolding unmet
fit_away p e f [] o a x = (tt, refl)
fit_away p e f (r ∷ rs) o a x = go x.0 (fit_away p e f rs o.2 a.1 x.1)
  where
    go : (meets_rule p r ≡ true) ⊎ AllFree p r → Fit (hold p e) rs × (unmet (hold p e) rs ≡ unmet p rs) → Fit (hold p e) (r ∷ rs) × (unmet (hold p e) (r ∷ rs) ≡ unmet p (r ∷ rs))
    go (inl u) ih = let v = meets_mono r (hold_extends p e f) u in ((inl v, ih.0), rw (u, v) ih.1)
    go (inr u) ih = let v = all_away p e r a.0 u in ((inr v, ih.0), rw (free_unmet p r o.0 u, free_unmet (hold p e) r o.0 v) (ap suc ih.1))

-- holding a device of the first unmet rule
pub fit_hold : (p : Plan) (e : Entry) → is_free p e ≡ true → (rs : List Rule) → Alone rs → Fit p rs → In e (first_unmet p rs) → Fit (hold p e) rs × (suc (unmet (hold p e) rs) ≡ unmet p rs)
unfolding unmet first_unmet
fit_hold p e f [] o x i = elim i [ ]
fit_hold p e f (r ∷ rs) o x i = go (test (meets_rule p r)) x.0 (λ j. fit_hold p e f rs o.2 x.1 j)
  where
    go : (meets_rule p r ≡ true) ⊎ (meets_rule p r ≡ false) → (meets_rule p r ≡ true) ⊎ AllFree p r → (In e (first_unmet p rs) → Fit (hold p e) rs × (suc (unmet (hold p e) rs) ≡ unmet p rs))
        → Fit (hold p e) (r ∷ rs) × (suc (unmet (hold p e) (r ∷ rs)) ≡ unmet p (r ∷ rs))
    go (inl u) y ih =
        let v = meets_mono r (hold_extends p e f) u in
        let w = ih (rw u at i) in
        ((inl v, w.0), rw (u, v) w.1)
    go (inr u) (inl y) ih = both y u
    go (inr u) (inr y) ih =
        let j : In e r = rw u at i in
        let v = hold_meets p e r j f in
        let w = fit_away p e f rs o.2 (o.1 e j) x.1 in
        ((inl v, w.0), rw (u, v) (ap suc w.1))

-- the first unmet rule is wholly free and as wide as all; where there is none every rule is met
pub first_free : (p : Plan) (k : ℕ) (rs : List Rule) → Alone rs → Fit p rs → Each (λ r. length r ≡ k) rs → (d : ℕ) → unmet p rs ≡ suc d → AllFree p (first_unmet p rs) × (length (first_unmet p rs) ≡ k) × (meets_all p rs ≡ false)
unfolding unmet first_unmet meets_all
first_free p k [] o x w d u = absurd (omega arith)
first_free p k (r ∷ rs) o x w d u = go x.0 (first_free p k rs o.2 x.1 w.1 d)
  where
    go : (meets_rule p r ≡ true) ⊎ AllFree p r → (unmet p rs ≡ suc d → AllFree p (first_unmet p rs) × (length (first_unmet p rs) ≡ k) × (meets_all p rs ≡ false))
        → AllFree p (first_unmet p (r ∷ rs)) × (length (first_unmet p (r ∷ rs)) ≡ k) × (meets_all p (r ∷ rs) ≡ false)
    go (inl y) ih = rw y (ih (rw y at u))
    go (inr y) ih = rw (free_unmet p r o.0 y) (y, w.0, refl)

pub none_unmet : (p : Plan) (rs : List Rule) → unmet p rs ≡ 0 → meets_all p rs ≡ true
unfolding unmet meets_all
none_unmet p [] u = refl
none_unmet p (r ∷ rs) u = go (test (meets_rule p r)) (none_unmet p rs)
  where
    go : (meets_rule p r ≡ true) ⊎ (meets_rule p r ≡ false) → (unmet p rs ≡ 0 → meets_all p rs ≡ true) → meets_all p (r ∷ rs) ≡ true
    go (inl y) ih = rw y (ih (rw y at u))
    go (inr y) ih = absurd (let z : suc (unmet p rs) ≡ 0 = rw y at u in omega arith)
