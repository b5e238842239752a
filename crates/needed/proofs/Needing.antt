-- From what the sheet's reader and `leave_out` give to the contract of `read`.
--
-- In order, of an accepted sheet: its hall (`WholeHall`, `read_whole`), that the rules which every plan meets can be left out of it
-- (`reads_leavable`), and what is then read (`reads_hall`). Assumes nothing.
use mathlib.Core.Path.{◌≡◌, refl, sym, ◌∙◌, ap, subst}
use mathlib.Core.List.{List, [], ◌∷◌}
use Prim.Native.Nat.{ℕ, suc, ◌≤◌}
use native.Mathlib.Omega.{arith}
use lib.ListN.{length, get_or}
use lib.Seq.{sets}
use lib.IntN.{ℤ}
use Rattle.std.specs.Prelude.{Ok}
use Rattle.lists.specs.Lists.{in_front}
use Rattle.lists.proofs.InFront.{front_fits, sets_in_front}
use Rattle.hall.specs.Hall.{Rule, Hall, leave_out}
use Rattle.hall.specs.Bound.{entries}
use Rattle.hall.specs.Ranges.{SheetOf}
use Rattle.hall.specs.Reading.{Read, bad, got, decode}
use Rattle.hall.proofs.LeftOut.{left_fewer, left_shorter}
use Rattle.hall.proofs.Reasons.{decoded}
use Rattle.hall.proofs.Refusals.{code_large}
use Rattle.sheet.specs.Coded.{rules_of, Laid, entry_codes, starts_from}
use Rattle.sheet.specs.Contract.{numbers_read, Holds, ArraysAfter, Decodes}
use Rattle.sheet.specs.declared.Size.{Size}
use Rattle.sheet.proofs.Standing.{codes_length, starts_length, few_entries}
use Rattle.sheet.proofs.Coded.{hall_back, hall_end, hall_laid}
use Rattle.needed.specs.Contract.{needed_of, ArraysLeft, ReadsNeeded}
use Rattle.needed.specs.Leaving.{Leavable, LeavesOut}

-- the first rule starts at 0
from_zero : (starts : List ℕ) (rs : List Rule) → get_or (in_front (starts_from 0 rs) starts) 0 0 ≡ 0
unfolding starts_from
from_zero starts [] = refl
from_zero starts (r ∷ rs) = refl

same_numbers : {n k left m : ℕ} → n ≡ k → left ≡ m → ◌≡◌ {A = List ℕ} (0 ∷ n ∷ left ∷ []) (0 ∷ k ∷ m ∷ [])
same_numbers e f = rw (e, f) refl

module _ {ws : List ℤ} {room : ℕ} {costs codes starts costs' codes' starts' : List ℕ} {s : Size} (d : Decodes ws room costs codes starts (Ok s) costs' codes' starts') where
  record WholeHall : Type 0 where
    whole : Hall
    place : ℕ
    is : decode room ws ≡ got whole place
    devices : length whole.costs ≡ s.devices
    count : length whole.rules ≡ s.rules
    sheet_of_lem : SheetOf whole ws room
    holds : Holds whole costs codes starts costs' codes' starts'

  read_whole : WholeHall
  read_whole = go (decode room ws) refl d.says d.arrays
    where
      go : (x : Read Hall) → decode room ws ≡ x → 0 ∷ s.devices ∷ s.rules ∷ [] ≡ numbers_read x → ArraysAfter x costs codes starts costs' codes' starts' → WholeHall
      go (bad f i) u q a = absurd (omega (arith, code_large f i _ (sym q)))
      go (got h j) u q a = record { whole = h; place = j; is = u; devices = cc; count = cc; sheet_of_lem = decoded ws room h j u; holds = a }

  h : Hall
  h = read_whole.whole

  starts_room : suc (length h.rules) ≤ length starts'
  unfolding h
  starts_room = let g = read_whole in omega (arith, starts_length 0 g.whole.rules, ap length g.holds.starts_hold, front_fits (starts_from 0 g.whole.rules) starts)

  codes_room : length (entries h.rules) ≤ length codes'
  unfolding h
  codes_room = let g = read_whole in omega (arith, codes_length (entries g.whole.rules), ap length g.holds.codes_hold, front_fits (entry_codes (entries g.whole.rules)) codes)

  pub reads_leavable : Leavable codes' starts' s.rules
  unfolding h
  reads_leavable =
      let g = read_whole in
      let count = g.count in
      let ranges = g.sheet_of_lem.ranges in
      let devices = ranges.devices in
      let few = ranges.count in
      let laid = subst (Laid (length g.whole.costs) codes' starts') count (hall_laid g.whole costs codes starts costs' codes' starts' g.holds ranges) in
      let end = hall_end g.whole costs codes starts costs' codes' starts' g.holds in
      record {
        laid = record { rise = laid.rise; narrow = laid.narrow; within = laid.within; named = λ i l. let v = laid.named i l in omega arith };
        first = ap (λ (ss : List ℕ). get_or ss 0 0) g.holds.starts_hold ∙ from_zero starts g.whole.rules;
        short = subst (λ (k : ℕ). get_or starts' k 0 ≤ 16384) count (omega (arith, end, few_entries g.sheet_of_lem));
        count = omega arith;
        room = omega (arith, starts_room);
      }

  -- the rules in the arrays are the hall's
  rules_are : rules_of codes' starts' 0 s.rules ≡ h.rules
  unfolding h
  rules_are =
      let g = read_whole in
      subst (λ (k : ℕ). rules_of codes' starts' 0 k ≡ g.whole.rules) g.count (ap (λ (x : Hall). x.rules) (hall_back g.whole costs codes starts costs' codes' starts' g.holds))

  pub reads_hall : {left : ℕ} {codes'' starts'' : List ℕ} → LeavesOut codes' starts' s.rules left codes'' starts'' → ReadsNeeded ws room costs codes starts (Ok (record { devices = s.devices; rules = left })) costs' codes'' starts''
  unfolding h
  reads_hall {left} {codes''} {starts''} out =
      let g = read_whole in
      let rules = ap leave_out rules_are in
      let number : left ≡ length (leave_out g.whole.rules) = out.number ∙ ap length rules in
      record {
        says = same_numbers (sym g.devices) number ∙ sym (ap (λ x. numbers_read (needed_of x)) g.is);
        arrays = subst (λ (x : Read Hall). ArraysLeft x costs codes starts costs' codes'' starts'') (sym g.is) (record {
          costs_hold = g.holds.costs_hold;
          codes_hold =
              out.codes_left
              ∙ ap (λ (rs : List Rule). sets codes' 0 (entry_codes (entries rs))) rules
              ∙ sets_in_front (entry_codes (entries (leave_out g.whole.rules))) codes' (omega (arith, codes_room, left_shorter g.whole.rules, codes_length (entries (leave_out g.whole.rules))))
              ∙ ap (in_front (entry_codes (entries (leave_out g.whole.rules)))) g.holds.codes_hold;
          starts_hold =
              out.starts_left
              ∙ ap (λ (rs : List Rule). sets starts' 0 (starts_from 0 rs)) rules
              ∙ sets_in_front (starts_from 0 (leave_out g.whole.rules)) starts' (omega (arith, starts_room, left_fewer g.whole.rules, starts_length 0 (leave_out g.whole.rules)))
              ∙ ap (in_front (starts_from 0 (leave_out g.whole.rules))) g.holds.starts_hold;
        });
      }
