-- The two loops of the rule test.
--
-- In order: the entries of a rule (`Untested`: what those left say is what all say); the rules of a hall (`Passed`: what the rules left say
-- is what all say, and none of them names both positions of a device), with a rule that is met (`passed_one`) and one that is not
-- (`unmet_at`), and none left (`all_met`). Assumes nothing.
use mathlib.Core.Path.{◌≡◌, refl, sym, ◌∙◌, ap}
use mathlib.Core.Bool.{Bool, true, false}
use mathlib.Core.List.{List, [], ◌∷◌, map}
use Prim.Native.Nat.{ℕ, zero, suc, ◌+◌, ◌-◌, ◌≤◌, ◌<◌}
use native.Mathlib.Omega.{arith}
use lib.ListN.{length, get_or, drop, drop_of_length-le}
use Rattle.std.proofs.lemmas.List.{drop_more}
use Rattle.lists.specs.Lists.{Each}
use Rattle.std.specs.List.{All}
use Rattle.hall.specs.Hall.{Rule, Plan, holds, holds_one, meets_rule, meets_all, first_unmet, OneWay}
use Rattle.hall.proofs.Rules.{one_way_meets}
use Rattle.sheet.specs.Coded.{entry_of, rules_of}
use Rattle.sheet.proofs.Codes.{rules_one}
use Rattle.needed.specs.declared.coded.Coded.{Coded}
use Rattle.needed.specs.Rules.{hall_in, IsRule}
use Rattle.walk.specs.Rules.{UnmetAt}

-- ── the entries of a rule ──
-- what each code has, the code at each place has
each_all : (P : ℕ → Type 0) (codes : List ℕ) → Each P codes → All P codes
each_all P [] x k d l = absurd (omega arith)
each_all P (c ∷ codes) x zero d l = x.0
each_all P (c ∷ codes) x (suc k) d l = each_all P codes x.1 k d (omega arith)

-- from code i on
abbrev pub left_from : ℕ → List ℕ → Rule
left_from i codes = map entry_of (drop i codes)

pub left_one : (codes : List ℕ) (i : ℕ) → i < length codes → left_from i codes ≡ entry_of (get_or codes i 0) ∷ left_from (i + 1) codes
left_one codes i l = ap (map entry_of) (drop_more codes i 0 l)

pub left_none : (codes : List ℕ) (i : ℕ) → length codes ≤ i → left_from i codes ≡ []
left_none codes i l = ap (map entry_of) (drop_of_length-le codes l)

-- what is left of a rule's entries says what all of them say
pub record Untested (p : Plan) (codes : List ℕ) (i : ℕ) : Type 0 where
  pub same : holds_one p (left_from i codes) ≡ holds_one p (map entry_of codes)

module _ {p : Plan} {codes : List ℕ} {i : ℕ} (x : Untested p codes i) where
  pub rule_held : i < length codes → holds p (entry_of (get_or codes i 0)) ≡ true → true ≡ holds_one p (map entry_of codes)
  unfolding holds_one
  rule_held l hit = rw hit at (rw (left_one codes i l) at x.same)

  pub tested_one : i < length codes → holds p (entry_of (get_or codes i 0)) ≡ false → Untested p codes (i + 1)
  unfolding holds_one
  tested_one l miss = record { same = rw miss at (rw (left_one codes i l) at x.same) }

  pub rule_unheld : length codes ≤ i → false ≡ holds_one p (map entry_of codes)
  unfolding holds_one
  rule_unheld l = rw (left_none codes i l) at x.same

-- ── the rules of a hall: every rule before r is met ──
pub record Passed (h : Coded) (p : Plan) (r : ℕ) : Type 0 where
  pub same_all : meets_all p (rules_of h.codes.now h.starts.now r (h.rules - r)) ≡ meets_all p (hall_in h).rules
  pub same_first : first_unmet p (rules_of h.codes.now h.starts.now r (h.rules - r)) ≡ first_unmet p (hall_in h).rules
  pub one_way : OneWay (rules_of h.codes.now h.starts.now r (h.rules - r))

pub passed_none : (h : Coded) (p : Plan) → Passed h p 0
passed_none h p = let e : h.rules - 0 ≡ h.rules = omega arith in record { same_all = rw e refl; same_first = rw e refl; one_way = rw e h.loaded.one_way }

module _ {h : Coded} {p : Plan} {r : ℕ} (x : Passed h p r) where
  pub all_met : h.rules ≤ r → meets_all p (hall_in h).rules ≡ true
  unfolding rules_of meets_all
  all_met l = let z : h.rules - r ≡ 0 = omega arith in sym x.same_all ∙ rw z refl

  module _ (below : r < h.rules) {codes : List ℕ} (c : IsRule h r codes) {met : Bool} (tested : met ≡ holds_one p (map entry_of codes)) where
    left : rules_of h.codes.now h.starts.now r (h.rules - r) ≡ map entry_of codes ∷ rules_of h.codes.now h.starts.now (r + 1) (h.rules - (r + 1))
    left =
        let e : h.rules - r - 1 ≡ h.rules - (r + 1) = omega arith in
        rw (rules_one h.codes.now h.starts.now r (h.rules - r) (λ (z : h.rules - r ≡ 0). omega arith), e, c.says below) refl

    left_one_way : OneWay (map entry_of codes ∷ rules_of h.codes.now h.starts.now (r + 1) (h.rules - (r + 1)))
    left_one_way = rw left at x.one_way

    met_is : meets_rule p (map entry_of codes) ≡ met
    met_is = one_way_meets p (map entry_of codes) left_one_way.0 ∙ sym tested

    pub passed_one : met ≡ true → Passed h p (r + 1)
    unfolding meets_all first_unmet
    passed_one hit = record { same_all = simp (met_is ∙ hit) at (rw left at x.same_all); same_first = simp (met_is ∙ hit) at (rw left at x.same_first); one_way = left_one_way.1 }

    pub unmet_at : met ≡ false → length p ≡ length h.costs.now → UnmetAt (hall_in h) p codes
    unfolding meets_all first_unmet
    unmet_at miss same = record {
      unmet = sym (simp (met_is ∙ miss) at (rw left at x.same_all));
      first = sym (simp (met_is ∙ miss) at (rw left at x.same_first));
      entries = record { narrow = c.narrow; named = rw same (each_all _ codes c.named) };
    }
