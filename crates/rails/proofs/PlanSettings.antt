-- The setting of a plan, and the plan of a setting: where not both variables of a device are true, each is the other's.
--
-- In order: the setting of a plan (`setting_for`), its length (`setting_length`) and that its plan is that plan
-- (`plan_of_setting`); every setting's plan has one mark for each two variables (`plan_length`), none above 2 (`plan_marks`); an
-- entry's variable is true where the plan holds the entry (`entry_true`), so a rule in variables is met where the plan holds one
-- of its entries (`rule_true_lem`); the pairs (`pairs_met`), and that a setting that meets them is that of its plan (`paired`); what
-- the denials weigh (`denials_cost`). Assumes nothing.
use mathlib.Core.Path.{◌≡◌, refl, sym, ◌∙◌, ap}
use mathlib.Core.Bool.{Bool, true, false, not, ◌&&◌, ◌||◌, false≢true}
use mathlib.Core.List.{List, [], ◌∷◌}
use Prim.Native.Nat.{ℕ, zero, suc, ◌+◌, ◌≤◌, zero-le}
use native.Mathlib.Omega.{arith}
use lib.ListN.{length, get_or}
use lib.Dec.{eqb}
use borrow.Author.Tests.{ne_eqb}
use Rattle.hall.specs.Hall.{Entry, at1, at0, Rule, Plan, holds, holds_one}
use Rattle.hall.specs.Order.{if_held, cost_of}
use Rattle.hall.specs.Settings.{Setting, is_true, rule_true}
use Rattle.lists.proofs.Cases.{and_both}
use Rattle.rails.specs.Weighted.{meets_hard, broken}
use Rattle.rails.specs.Rails.{variable, in_variables, not_both, pairs_from, denials_from, mark_of, plan_of}

-- a device's first variable is true where its mark is 1, its second where it is 2
unfoldable pub setting_for : Plan → Setting
setting_for [] = []
setting_for (x ∷ p) = eqb x 1 ∷ eqb x 2 ∷ setting_for p

pub setting_length : (p : Plan) → length (setting_for p) ≡ length p + length p
unfolding setting_for
setting_length [] = refl
setting_length (x ∷ p) = omega (arith, setting_length p)

pub plan_of_setting : (p : Plan) → ((v : ℕ) → get_or p v 0 ≤ 2) → plan_of (setting_for p) ≡ p
unfolding setting_for plan_of
plan_of_setting [] m = refl
plan_of_setting (x ∷ p) m = go x (m 0) (plan_of_setting p (λ v. m (suc v)))
  where
    go : (x : ℕ) → x ≤ 2 → plan_of (setting_for p) ≡ p → plan_of (setting_for (x ∷ p)) ≡ x ∷ p
    go zero l ih = ap (λ (q : Plan). 0 ∷ q) ih
    go (suc zero) l ih = ap (λ (q : Plan). 1 ∷ q) ih
    go (suc (suc zero)) l ih = ap (λ (q : Plan). 2 ∷ q) ih
    go (suc (suc (suc x))) l ih = absurd (omega arith)

pub plan_length : (n : ℕ) (s : Setting) → length s ≡ n + n → length (plan_of s) ≡ n
unfolding plan_of
plan_length zero [] l = refl
plan_length (suc n) [] l = absurd (omega arith)
plan_length n (a ∷ []) l = absurd (omega arith)
plan_length zero (a ∷ b ∷ s) l = absurd (omega arith)
plan_length (suc n) (a ∷ b ∷ s) l = ap suc (plan_length n s (omega arith))

mark_most : (a b : Bool) → mark_of a b ≤ 2
mark_most true b = omega arith
mark_most false true = omega arith
mark_most false false = omega arith

pub plan_marks : (s : Setting) (v : ℕ) → get_or (plan_of s) v 0 ≤ 2
unfolding plan_of
plan_marks [] v = zero-le
plan_marks (a ∷ []) v = zero-le
plan_marks (a ∷ b ∷ s) zero = mark_most a b
plan_marks (a ∷ b ∷ s) (suc v) = plan_marks s v

-- ── entries and rules ──
entry_true : (p : Plan) (e : Entry) → is_true (setting_for p) (at1 (variable e)) ≡ holds p e
unfolding setting_for is_true variable holds
entry_true [] (at1 v) = refl
entry_true [] (at0 v) = refl
entry_true (x ∷ p) (at1 zero) = refl
entry_true (x ∷ p) (at0 zero) = refl
entry_true (x ∷ p) (at1 (suc v)) = let e : suc v + suc v ≡ suc (suc (v + v)) = omega arith in rw e (entry_true p (at1 v))
entry_true (x ∷ p) (at0 (suc v)) = let e : suc v + suc v + 1 ≡ suc (suc (v + v + 1)) = omega arith in rw e (entry_true p (at0 v))

pub rule_true_lem : (p : Plan) (r : Rule) → rule_true (setting_for p) (in_variables r) ≡ holds_one p r
unfolding rule_true holds_one
rule_true_lem p [] = refl
rule_true_lem p (e ∷ es) = rw (entry_true p e, rule_true_lem p es) refl

-- ── the pairs ──
-- device v + 1 of a setting is device v of the setting without its first device
pair_shift : (a b : Bool) (s : Setting) (v : ℕ) → rule_true (a ∷ b ∷ s) (not_both (suc v)) ≡ rule_true s (not_both v)
unfolding rule_true is_true variable
pair_shift a b s v =
    let e : suc v + suc v ≡ suc (suc (v + v)) = omega arith in
    let f : suc v + suc v + 1 ≡ suc (suc (v + v + 1)) = omega arith in
    rw (f, e) refl

pairs_shift : (a b : Bool) (s : Setting) (v : ℕ) (cs : List ℕ) → meets_hard (a ∷ b ∷ s) (pairs_from (suc v) cs) ≡ meets_hard s (pairs_from v cs)
unfolding meets_hard pairs_from
pairs_shift a b s v [] = refl
pairs_shift a b s v (c ∷ cs) = rw (pair_shift a b s v, pairs_shift a b s (suc v) cs) refl

pub pairs_met : (p : Plan) (cs : List ℕ) → length p ≡ length cs → meets_hard (setting_for p) (pairs_from 0 cs) ≡ true
unfolding setting_for meets_hard pairs_from rule_true is_true variable
pairs_met p [] l = refl
pairs_met [] (c ∷ cs) l = absurd (omega arith)
pairs_met (x ∷ p) (c ∷ cs) l = rw (pairs_shift (eqb x 1) (eqb x 2) (setting_for p) 0 cs, pairs_met p cs (omega arith)) (go x)
  where
    go : (x : ℕ) → ((not (eqb x 1) || (not (eqb x 2) || false)) && true) ≡ true
    go zero = refl
    go (suc zero) = refl
    go (suc (suc x)) = rw (ne_eqb (suc (suc x)) 1 (λ (e : suc (suc x) ≡ 1). omega arith)) refl

pub paired : (s : Setting) (cs : List ℕ) → length s ≡ length cs + length cs → meets_hard s (pairs_from 0 cs) ≡ true → setting_for (plan_of s) ≡ s
unfolding setting_for plan_of meets_hard pairs_from rule_true is_true variable
paired [] cs l m = refl
paired (a ∷ []) cs l m = absurd (omega arith)
paired (a ∷ b ∷ s) [] l m = absurd (omega arith)
paired (a ∷ b ∷ s) (c ∷ cs) l m =
    let f = and_both (not a || (not b || false)) (meets_hard (a ∷ b ∷ s) (pairs_from 1 cs)) m in
    go a b f.0 (paired s cs (omega arith) (sym (pairs_shift a b s 0 cs) ∙ f.1))
  where
    go : (a b : Bool) → (not a || (not b || false)) ≡ true → setting_for (plan_of s) ≡ s → setting_for (plan_of (a ∷ b ∷ s)) ≡ a ∷ b ∷ s
    go true true k ih = absurd (false≢true k)
    go true false k ih = ap (λ (t : Setting). true ∷ false ∷ t) ih
    go false true k ih = ap (λ (t : Setting). false ∷ true ∷ t) ih
    go false false k ih = ap (λ (t : Setting). false ∷ false ∷ t) ih

-- ── the denials ──
denials_shift : (a b : Bool) (s : Setting) (v : ℕ) (cs : List ℕ) → broken (a ∷ b ∷ s) (denials_from (suc v) cs) ≡ broken s (denials_from v cs)
unfolding broken denials_from rule_true is_true variable
denials_shift a b s v [] = refl
denials_shift a b s v (zero ∷ cs) = denials_shift a b s (suc v) cs
denials_shift a b s v (suc c ∷ cs) =
    let e : suc v + suc v ≡ suc (suc (v + v)) = omega arith in
    let f : suc v + suc v + 1 ≡ suc (suc (v + v + 1)) = omega arith in
    rw (f, e, denials_shift a b s (suc v) cs) refl

pub denials_cost : (p : Plan) (cs : List ℕ) → length p ≡ length cs → ((v : ℕ) → get_or p v 0 ≤ 2) → broken (setting_for p) (denials_from 0 cs) ≡ cost_of cs p
unfolding setting_for broken denials_from rule_true is_true variable cost_of if_held
denials_cost p [] l m = refl
denials_cost [] (c ∷ cs) l m = absurd (omega arith)
denials_cost (x ∷ p) (c ∷ cs) l m =
    go c x (m 0) (denials_shift (eqb x 1) (eqb x 2) (setting_for p) 0 cs ∙ denials_cost p cs (omega arith) (λ v. m (suc v)))
  where
    go : (c x : ℕ) → x ≤ 2 → broken (setting_for (x ∷ p)) (denials_from 1 cs) ≡ cost_of cs p → broken (setting_for (x ∷ p)) (denials_from 0 (c ∷ cs)) ≡ cost_of (c ∷ cs) (x ∷ p)
    go zero zero l ih = omega arith
    go zero (suc x) l ih = omega arith
    go (suc c) zero l ih = omega arith
    go (suc c) (suc zero) l ih = omega arith
    go (suc c) (suc (suc zero)) l ih = omega arith
    go (suc c) (suc (suc (suc x))) l ih = absurd (omega arith)
