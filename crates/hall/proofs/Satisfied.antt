-- DOCUMENT 000'S DEFINITION 2 IS THE WALK'S TEST. 02, request 3: "demand 2 reads by that definition".
--
-- The argument, for one rule, from the laws of Rules alone: where an entry is held, every setting that agrees with the plan makes it
-- true; where both entries of a device stand in the rule, every full setting makes one of the two true. Else the setting that keeps
-- what the plan holds and sets every other device against the rule (`against`) makes no entry true. In order: all rules at once or
-- one after another is the same (`rule_by_rule`); one rule (`test_exact`); a hall (`satisfies_exact`); the least plan and no plan,
-- for two meanings that are the same (`least_same`, `none_same`), and so for these two (`least_exact`, `none_exact`). Assumes nothing.
use mathlib.Core.Path.{◌≡◌, refl, ◌∙◌, ap}
use mathlib.Core.Logic.{◌⊎◌, inl, inr, ◌↔◌}
use mathlib.Core.Bool.{Bool, true, false, not, ◌&&◌, ◌||◌}
use mathlib.Core.List.{List, [], ◌∷◌}
use Prim.Native.Nat.{ℕ, zero, suc, ◌+◌, ◌≤◌, ◌<◌}
use native.Mathlib.Omega.{arith}
use lib.ListN.{length, get_or}
use borrow.Author.Tests.{eqb-true}
use Rattle.hall.specs.Hall.{Entry, at1, at0, device, opposite, Rule, Hall, Plan, holds, among, names_both, meets_rule, meets_all}
use Rattle.hall.specs.Order.{MeetsSheet, LeastOf, NoneOf}
use Rattle.hall.specs.Settings.{Setting, is_true, rule_true, all_true, Agrees, Satisfies}
use Rattle.lists.specs.Lists.{Each, In, first, later}
use Rattle.hall.specs.Ranges.{RuleInRange}
use Rattle.lists.proofs.Cases.{test, both, fails, or_right, and_both}
use Rattle.hall.proofs.Rules.{each_in, in_among, among_in, both_named, named_both, held_meets, unheld_unmet, both_met}

-- a rule is true in every full setting of n devices that agrees with the plan
abbrev pub AlwaysTrue : ℕ → Plan → Rule → Type 0
AlwaysTrue n p r = (s : Setting) → length s ≡ n → Agrees p s → rule_true s r ≡ true

-- ── all rules at once, or one after another ──
all_each : (n : ℕ) (p : Plan) (rs : List Rule) → ((s : Setting) → length s ≡ n → Agrees p s → all_true s rs ≡ true) → Each (AlwaysTrue n p) rs
unfolding all_true
all_each n p [] h = tt
all_each n p (r ∷ rs) h = (λ s l a. (and_both (rule_true s r) (all_true s rs) (h s l a)).0, all_each n p rs (λ s l a. (and_both (rule_true s r) (all_true s rs) (h s l a)).1))

each_all : (n : ℕ) (p : Plan) (rs : List Rule) → Each (AlwaysTrue n p) rs → (s : Setting) → length s ≡ n → Agrees p s → all_true s rs ≡ true
unfolding all_true
each_all n p [] h s l a = refl
each_all n p (r ∷ rs) h s l a = rw (h.0 s l a) (each_all n p rs h.1 s l a)

pub rule_by_rule : (n : ℕ) (p : Plan) (rs : List Rule) → ((s : Setting) → length s ≡ n → Agrees p s → all_true s rs ≡ true) ↔ Each (AlwaysTrue n p) rs
rule_by_rule n p rs = (all_each n p rs, each_all n p rs)

-- ── what the test passes is always true ──
one_true : (s : Setting) (e : Entry) (r : Rule) → In e r → is_true s e ≡ true → rule_true s r ≡ true
unfolding rule_true
one_true s e [] x'' h = elim x'' [ ]
one_true s e (e' ∷ es) first h = rw h
one_true s e (d ∷ es) (later i) h = or_right (is_true s d) (rule_true s es) (one_true s e es i h)

-- of a device that is set, one entry is true or the other
set_either : (s : Setting) (v : ℕ) → v < length s → (is_true s (at1 v) ≡ true) ⊎ (is_true s (at0 v) ≡ true)
unfolding is_true
set_either [] v l = absurd (omega arith)
set_either (true ∷ s) zero l = inl refl
set_either (false ∷ s) zero l = inr refl
set_either (b ∷ s) (suc v) l = set_either s v (omega arith)

either_true : (s : Setting) (e : Entry) → device e < length s → (is_true s e ≡ true) ⊎ (is_true s (opposite e) ≡ true)
either_true s (at1 v) l = set_either s v l
either_true s (at0 v) l = swap (set_either s v l)
  where
    swap : (is_true s (at1 v) ≡ true) ⊎ (is_true s (at0 v) ≡ true) → (is_true s (at0 v) ≡ true) ⊎ (is_true s (at1 v) ≡ true)
    swap (inl u) = inr u
    swap (inr u) = inl u

held_or_none : (p : Plan) (r : Rule) → ((e : Entry) × In e r × (holds p e ≡ true)) ⊎ Each (λ e. holds p e ≡ false) r
held_or_none p [] = inr tt
held_or_none p (e ∷ es) = go (test (holds p e)) (held_or_none p es)
  where
    go : (holds p e ≡ true) ⊎ (holds p e ≡ false) → ((d : Entry) × In d es × (holds p d ≡ true)) ⊎ Each (λ d. holds p d ≡ false) es → ((d : Entry) × In d (e ∷ es) × (holds p d ≡ true)) ⊎ Each (λ d. holds p d ≡ false) (e ∷ es)
    go (inl u) f = inl (e, first, u)
    go (inr u) (inl f) = inl (f.0, later f.1, f.2)
    go (inr u) (inr f) = inr (u, f)

met_always : (n : ℕ) (p : Plan) (r : Rule) → Each (λ e. device e < n) r → meets_rule p r ≡ true → AlwaysTrue n p r
met_always n p r d m s l a = go (test (names_both r))
  where
    pick : (e : Entry) → In e r → In (opposite e) r → (is_true s e ≡ true) ⊎ (is_true s (opposite e) ≡ true) → rule_true s r ≡ true
    pick e i j (inl u) = one_true s e r i u
    pick e i j (inr u) = one_true s (opposite e) r j u

    held : names_both r ≡ false → ((e : Entry) × In e r × (holds p e ≡ true)) ⊎ Each (λ e. holds p e ≡ false) r → rule_true s r ≡ true
    held o (inl f) = one_true s f.0 r f.1 (a f.0 f.2)
    held o (inr f) = both m (unheld_unmet p r o f)

    go : (names_both r ≡ true) ⊎ (names_both r ≡ false) → rule_true s r ≡ true
    go (inl o) =
        let f = named_both r o in
        let below : device f.0 < n = each_in (λ e. device e < n) f.1 d in
        pick f.0 f.1 f.2 (either_true s f.0 (omega arith))
    go (inr o) = held o (held_or_none p r)

-- ── what is always true passes the test ──
-- the positions of so many devices from device v on
unfoldable set_by : (ℕ → Bool) → ℕ → ℕ → Setting
set_by f v zero = []
set_by f v (suc n) = f v ∷ set_by f (suc v) n

set_length : (f : ℕ → Bool) (v n : ℕ) → length (set_by f v n) ≡ n
unfolding set_by
set_length f v zero = refl
set_length f v (suc n) = ap suc (set_length f (suc v) n)

set_at : (f : ℕ → Bool) (v n i : ℕ) (b : Bool) → i < n → get_or (set_by f v n) i b ≡ f (v + i)
unfolding set_by
set_at f v zero i b l = absurd (omega arith)
set_at f v (suc n) zero b l = let e : v + 0 ≡ v = omega arith in rw e refl
set_at f v (suc n) (suc i) b l = let e : v + suc i ≡ suc v + i = omega arith in rw e (set_at f (suc v) n i b (omega arith))

-- what is held stays, and every other device is set against the rule
against : Plan → Rule → ℕ → Bool
against p r v = holds p (at1 v) || (not (holds p (at0 v)) && not (among (at1 v) r))

not_both_lem : (p : Plan) (v : ℕ) → holds p (at0 v) ≡ true → holds p (at1 v) ≡ false
unfolding holds
not_both_lem p v h = fails (λ k. let a : get_or p v 0 ≡ 2 = eqb-true _ _ h in let b : get_or p v 0 ≡ 1 = eqb-true _ _ k in omega arith)

held_below : (p : Plan) (v m : ℕ) → get_or p v 0 ≡ suc m → v < length p
held_below [] v m h = absurd (omega arith)
held_below (x ∷ p) zero m h = omega arith
held_below (x ∷ p) (suc v) m h = let l = held_below p v m h in omega arith

module _ (n : ℕ) (p : Plan) (r : Rule) (size : length p ≤ n) where
  -- the setting
  turned : Setting
  turned = set_by (against p r) 0 n

  turned_at : (v : ℕ) (b : Bool) → v < n → get_or turned v b ≡ against p r v
  unfolding turned
  turned_at v b l = let e : 0 + v ≡ v = omega arith in set_at (against p r) 0 n v b l ∙ ap (against p r) e

  turned_agrees : Agrees p turned
  unfolding holds against is_true
  turned_agrees (at1 v) h =
      let l = held_below p v 0 (eqb-true _ _ h) in
      rw (turned_at v false (omega arith), h) refl
  turned_agrees (at0 v) h =
      let l = held_below p v 1 (eqb-true _ _ h) in
      rw (turned_at v true (omega arith), not_both_lem p v h, h) refl

  module _ (miss : meets_rule p r ≡ false) where
    unheld : (e : Entry) → In e r → holds p e ≡ false
    unheld e i = fails (λ h. both (held_meets p e r i h) miss)

    unopposed : (e : Entry) → In e r → among (opposite e) r ≡ false
    unopposed e i = fails (λ h. both (both_met p r (both_named e r i (among_in (opposite e) r h))) miss)

    turned_false : (e : Entry) → device e < n → In e r → is_true turned e ≡ false
    unfolding is_true against
    turned_false (at1 v) l i = rw (turned_at v false l, unheld (at1 v) i, in_among (at1 v) r i) (off (not (holds p (at0 v))))
      where
        off : (b : Bool) → (b && false) ≡ false
        off true = refl
        off false = refl
    turned_false (at0 v) l i = rw (turned_at v true l, unheld (at0 v) i, unopposed (at0 v) i) (on (holds p (at1 v)))
      where
        on : (b : Bool) → not (b || true) ≡ false
        on true = refl
        on false = refl

none_true : (s : Setting) (r : Rule) → ((e : Entry) → In e r → is_true s e ≡ false) → rule_true s r ≡ false
unfolding rule_true
none_true s [] h = refl
none_true s (e ∷ es) h = rw (h e first) (none_true s es (λ d i. h d (later i)))

always_met : (n : ℕ) (p : Plan) (r : Rule) → length p ≤ n → Each (λ e. device e < n) r → AlwaysTrue n p r → meets_rule p r ≡ true
unfolding turned
always_met n p r size d t = go (test (meets_rule p r))
  where
    go : (meets_rule p r ≡ true) ⊎ (meets_rule p r ≡ false) → meets_rule p r ≡ true
    go (inl u) = u
    go (inr u) =
        let s = turned n p r size in
        both (t s (set_length (against p r) 0 n) (turned_agrees n p r size)) (none_true s r (λ e i. turned_false n p r size u e (each_in (λ e. device e < n) i d) i))

-- ── one rule, and a hall ──
pub test_exact : (n : ℕ) (p : Plan) (r : Rule) → length p ≤ n → Each (λ e. device e < n) r → (meets_rule p r ≡ true) ↔ AlwaysTrue n p r
test_exact n p r size d = (met_always n p r d, always_met n p r size d)

each_meets : (p : Plan) (rs : List Rule) → (meets_all p rs ≡ true) ↔ Each (λ r. meets_rule p r ≡ true) rs
unfolding meets_all
each_meets p [] = (λ h. tt, λ h. refl)
each_meets p (r ∷ rs) =
    let ih = each_meets p rs in
    (λ h. let a = and_both (meets_rule p r) (meets_all p rs) h in (a.0, ih.0 a.1), λ h. rw h.0 (ih.1 h.1))

each_exact : (n : ℕ) (p : Plan) (rs : List Rule) → length p ≤ n → Each (RuleInRange n) rs → Each (λ r. meets_rule p r ≡ true) rs ↔ Each (AlwaysTrue n p) rs
each_exact n p [] size g = (λ h. tt, λ h. tt)
each_exact n p (r ∷ rs) size g =
    let one = test_exact n p r size g.0.named in
    let ih = each_exact n p rs size g.1 in
    (λ h. (one.0 h.0, ih.0 h.1), λ h. (one.1 h.0, ih.1 h.1))

module _ (h : Hall) (good : Each (RuleInRange (length h.costs)) h.rules) where
  pub satisfies_exact : (p : Plan) → Satisfies h p ↔ MeetsSheet h p
  satisfies_exact p = (to, from)
    where
      n : ℕ
      n = length h.costs

      to : Satisfies h p → MeetsSheet h p
      to s =
          let l = s.plan.size in
          record { plan = s.plan; meets = (each_meets p h.rules).1 ((each_exact n p h.rules (omega arith) good).1 (all_each n p h.rules s.always)) }

      from : MeetsSheet h p → Satisfies h p
      from m =
          let l = m.plan.size in
          record { plan = m.plan; always = each_all n p h.rules ((each_exact n p h.rules (omega arith) good).0 ((each_meets p h.rules).0 m.meets)) }

-- ── the least plan and no plan, for two meanings that are the same ──
module _ (A B : Hall → Plan → Type 0) (h : Hall) (same : (p : Plan) → A h p ↔ B h p) where
  pub least_same : (p : Plan) → LeastOf A h p ↔ LeastOf B h p
  least_same p = (
    λ l. record { sheet = (same p).0 l.sheet; best = λ q m. l.best q ((same q).1 m) },
    λ l. record { sheet = (same p).1 l.sheet; best = λ q m. l.best q ((same q).0 m) },
  )

  pub none_same : NoneOf A h ↔ NoneOf B h
  none_same = (λ f q m. f q ((same q).1 m), λ f q m. f q ((same q).0 m))

module _ (h : Hall) (good : Each (RuleInRange (length h.costs)) h.rules) where
  pub least_exact : (p : Plan) → LeastOf Satisfies h p ↔ LeastOf MeetsSheet h p
  least_exact p = least_same Satisfies MeetsSheet h (satisfies_exact h good) p

  pub none_exact : NoneOf Satisfies h ↔ NoneOf MeetsSheet h
  none_exact = none_same Satisfies MeetsSheet h (satisfies_exact h good)
