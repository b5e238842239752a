-- The contract of `read`, from the check's answer and from what was written.
--
-- In order: the numbers of an answer (`numbers_same`, `says_same`); an accepted sheet (`GoodSheet`), what stands on it (`accepted_rules`),
-- that the arrays have place for it (`accepted_costs`, `accepted_room`), and what they hold of it (`read_hall`). Assumes nothing.
use mathlib.Core.Path.{◌≡◌, refl, sym, ◌∙◌, ap, subst}
use mathlib.Core.List.{List, [], ◌∷◌, ◌++◌}
use Prim.Native.Nat.{ℕ, ◌+◌, ◌≤◌}
use native.Mathlib.Omega.{arith}
use lib.ListN.{length, drop, length-append}
use lib.Seq.{sets}
use lib.IntN.{ℤ, pos}
use Rattle.std.specs.Prelude.{Result, Ok}
use Rattle.hall.specs.Hall.{Hall}
use Rattle.lists.specs.Lists.{Each}
use Rattle.hall.specs.Ranges.{RuleInRange, words_of, number_words, rule_words, words, SheetOf}
use Rattle.hall.specs.Bound.{entries}
use Rattle.hall.specs.Reading.{Read, bad, got, decode}
use Rattle.hall.proofs.Words.{number_words_length}
use Rattle.hall.proofs.Reading.{past}
use Rattle.hall.proofs.Reasons.{decoded}
use Rattle.lists.proofs.InFront.{sets_in_front}
use Rattle.refusals.specs.declared.Refusal.{Refusal}
use Rattle.refusals.specs.declared.Refused.{Refused}
use Rattle.refusals.proofs.Faults.{fault_kind}
use Rattle.sheet.specs.Coded.{entry_codes, starts_from}
use Rattle.sheet.specs.Word.{numbers_from}
use Rattle.sheet.specs.Check.{sheet_of}
use Rattle.sheet.specs.Placed.{codes_in, starts_in, RulesStand, RulesRoom, RulesPut}
use Rattle.sheet.specs.Contract.{numbers_of, numbers_read, Holds, ArraysAfter, Decodes}
use Rattle.sheet.specs.declared.Size.{Size}
use Rattle.sheet.proofs.Standing.{costs_stand, codes_stand, starts_stand, codes_length, starts_length, few_entries}

-- ── the numbers of an answer ──
numbers_same : (x : Read Hall) → numbers_of (sheet_of x) ≡ numbers_read x
numbers_same (bad f i) = rw (fault_kind f)
numbers_same (got h j) = refl

module _ (ws : List ℤ) (room : ℕ) where
  says_same : (r : Result Size (Refused Refusal)) → r ≡ sheet_of (decode room ws) → numbers_of r ≡ numbers_read (decode room ws)
  says_same r e = ap numbers_of e ∙ numbers_same (decode room ws)

  -- ── an accepted sheet ──
  record GoodSheet (s : Size) : Type 0 where
    whole : Hall
    place : ℕ
    is : decode room ws ≡ got whole place
    devices : length whole.costs ≡ s.devices
    count : length whole.rules ≡ s.rules
    sheet_of_lem : SheetOf whole ws room

  good_sheet : (s : Size) → Ok s ≡ sheet_of (decode room ws) → GoodSheet s
  good_sheet s e = go (decode room ws) refl e
    where
      go : (x : Read Hall) → decode room ws ≡ x → Ok s ≡ sheet_of x → GoodSheet s
      go (bad f i) d e = cc
      go (got h j) d e = record { whole = h; place = j; is = d; devices = cc; count = cc; sheet_of_lem = decoded ws room h j d }

  accepted_few : (s : Size) → Ok s ≡ sheet_of (decode room ws) → s.devices ≤ 200
  accepted_few s e = let a = good_sheet s e in let d = a.devices in let r = a.sheet_of_lem.ranges.devices in omega arith

-- the words of a hall, part by part
record Parts (ws : List ℤ) (h : Hall) : Type 0 where
  costs_here : drop 1 ws ≡ words_of number_words h.costs ++ (pos (length h.rules) ∷ words_of rule_words h.rules)
  rules_here : drop (length h.costs + 2) ws ≡ words_of rule_words h.rules
  enough : length h.costs + 2 ≤ length ws

parts : (ws : List ℤ) (h : Hall) → ws ≡ words h → Parts ws h
unfolding words
parts ws h e =
    let cs = words_of number_words h.costs in
    let rs = words_of rule_words h.rules in
    let a = past ws 0 (pos (length h.costs) ∷ []) (cs ++ (pos (length h.rules) ∷ rs)) e in
    let b = past ws 1 cs (pos (length h.rules) ∷ rs) a in
    let c = past ws (1 + length cs) (pos (length h.rules) ∷ []) rs b in
    let l = number_words_length h.costs in
    let place : 1 + length cs + 1 ≡ length h.costs + 2 = omega arith in
    record { costs_here = a; rules_here = subst (λ (k : ℕ). drop k ws ≡ rs) place c; enough = omega (arith, ap length e, length-append cs (pos (length h.rules) ∷ rs)) }

module _ (ws : List ℤ) (room : ℕ) (s : Size) (e : Ok s ≡ sheet_of (decode room ws)) where
  pub accepted_rules : RulesStand s.devices ws (s.devices + 2) s.rules
  accepted_rules =
      let a = good_sheet ws room s e in
      let d = a.devices in
      let o = a.sheet_of_lem in
      let p = parts ws a.whole o.sheet in
      record {
        rules = a.whole.rules;
        sheet = subst (λ (k : ℕ). drop (k + 2) ws ≡ words_of rule_words a.whole.rules) d p.rules_here;
        number = a.count;
        good = subst (λ (k : ℕ). Each (RuleInRange k) a.whole.rules) d o.ranges.good;
        devices = accepted_few ws room s e;
        count = let c = a.count in let r = o.ranges.count in omega arith;
        short = o.short;
        inside = let q = p.enough in omega arith;
      }

  -- the arrays have place for it
  pub accepted_costs : (costs : List ℕ) → length costs ≡ 200 → s.devices ≤ length costs
  accepted_costs costs l = omega (arith, accepted_few ws room s e)

  pub accepted_room : (codes starts : List ℕ) → length codes ≡ 16384 → length starts ≡ 2001 → RulesRoom ws s.rules codes starts
  accepted_room codes starts lk ls =
      let short = accepted_rules.short in
      let count = accepted_rules.count in
      record { codes_room = omega arith; starts_room = omega arith }

  -- ── what the arrays hold ──
  pub read_hall : (costs codes starts costs' codes' starts' : List ℕ) → length costs ≡ 200 → length codes ≡ 16384 → length starts ≡ 2001 → costs' ≡ sets costs 0 (numbers_from ws 1 s.devices) → RulesPut s.devices ws (s.devices + 2) s.rules codes starts codes' starts' → Decodes ws room costs codes starts (Ok s) costs' codes' starts'
  read_hall costs codes starts costs' codes' starts' lc lk ls put q = record { says = says_same ws room (Ok s) e; arrays = subst (λ (x : Read Hall). ArraysAfter x costs codes starts costs' codes' starts') (sym a.is) holds }
    where
      a : GoodSheet ws room s
      a = good_sheet ws room s e

      h : Hall
      h = a.whole

      p : Parts ws h
      p = parts ws h a.sheet_of_lem.sheet

      place : s.devices + 2 ≡ length h.costs + 2
      place = ap (λ (k : ℕ). k + 2) (sym a.devices)

      here : drop (s.devices + 2) ws ≡ words_of rule_words h.rules
      here = ap (λ (k : ℕ). drop k ws) place ∙ p.rules_here

      costs_are : numbers_from ws 1 s.devices ≡ h.costs
      costs_are = ap (numbers_from ws 1) (sym a.devices) ∙ costs_stand ws 1 h.costs _ p.costs_here

      good : Each (RuleInRange s.devices) h.rules
      good = subst (λ (k : ℕ). Each (RuleInRange k) h.rules) a.devices a.sheet_of_lem.ranges.good

      codes_are : codes_in s.devices ws (s.devices + 2) s.rules ≡ entry_codes (entries h.rules)
      codes_are = ap (codes_in s.devices ws (s.devices + 2)) (sym a.count) ∙ codes_stand s.devices ws (s.devices + 2) h.rules good here

      starts_are : starts_in ws (s.devices + 2) 0 s.rules ≡ starts_from 0 h.rules
      starts_are = ap (starts_in ws (s.devices + 2) 0) (sym a.count) ∙ starts_stand ws (s.devices + 2) 0 h.rules here

      holds : Holds h costs codes starts costs' codes' starts'
      holds =
          let devices = a.sheet_of_lem.ranges.devices in
          let count = a.sheet_of_lem.ranges.count in
          record {
            costs_hold = put ∙ ap (sets costs 0) costs_are ∙ sets_in_front h.costs costs (omega arith);
            codes_hold = q.codes_are ∙ ap (sets codes 0) codes_are ∙ sets_in_front (entry_codes (entries h.rules)) codes (omega (arith, codes_length (entries h.rules), few_entries a.sheet_of_lem));
            starts_hold = q.starts_are ∙ ap (sets starts 0) starts_are ∙ sets_in_front (starts_from 0 h.rules) starts (omega (arith, starts_length 0 h.rules));
          }
