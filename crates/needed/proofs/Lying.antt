-- What a caller knows of a sheet that was read, by the contract of `read` alone.
--
-- In order: a refused sheet (`read_refused`); an accepted sheet: its hall, which lies in the arrays without the rules that every
-- plan meets (`Lies`, `read_lies`), and so can be held as a `Coded` (`lies_front`, `lies_loaded`). Assumes nothing.
use mathlib.Core.Path.{◌≡◌, refl, sym, ◌∙◌, ap, subst}
use mathlib.Core.List.{List, [], ◌∷◌}
use Prim.Native.Nat.{ℕ, ◌≤◌, ◌<◌}
use native.Mathlib.Omega.{arith}
use lib.ListN.{length, get_or, take}
use lib.IntN.{ℤ}
use Rattle.std.specs.Prelude.{Result, Ok, Err}
use Rattle.lists.specs.Lists.{in_front}
use Rattle.lists.proofs.InFront.{front_fits}
use Rattle.hall.specs.Hall.{Hall, OneWay, leave_out, without}
use Rattle.hall.specs.Bound.{entries}
use Rattle.hall.specs.Ranges.{SheetOf}
use Rattle.hall.specs.Reading.{Read, bad, got, decode}
use Rattle.hall.proofs.LeftOut.{left_one_way, left_shorter, without_in_range}
use Rattle.hall.proofs.Reasons.{decoded}
use Rattle.hall.proofs.Refusals.{code_large, refusal_injective}
use Rattle.refusals.specs.Contract.{fault_of, numbers_at}
use Rattle.refusals.specs.declared.Refusal.{Refusal}
use Rattle.refusals.specs.declared.Refused.{Refused}
use Rattle.sheet.specs.Coded.{hall_of, Laid, entry_codes, starts_from}
use Rattle.sheet.specs.Contract.{numbers_of, numbers_read, Holds}
use Rattle.sheet.specs.declared.Size.{Size}
use Rattle.sheet.proofs.Standing.{starts_length, few_entries}
use Rattle.sheet.proofs.Coded.{hall_back, hall_end, hall_laid}
use Rattle.needed.specs.Contract.{needed_of, ArraysLeft, ReadsNeeded}
use Rattle.needed.specs.Loaded.{Loaded}

-- the hall of an accepted sheet, in arrays of which n costs and m rules are meant
pub record Lies (ws : List ℤ) (room n m : ℕ) (costs codes starts : List ℕ) : Type 0 where
  pub whole : Hall
  pub place : ℕ
  pub is : decode room ws ≡ got whole place
  pub sheet_of_lem : SheetOf whole ws room
  pub few : n ≤ length costs
  pub number : m ≡ length (leave_out whole.rules)
  pub back : hall_of (take n costs) codes starts m ≡ without whole
  pub laid : Laid (length whole.costs) codes starts m
  pub short : get_or starts m 0 ≤ 16384
  pub starts_room : m < length starts

module _ {ws : List ℤ} {room : ℕ} {costs codes starts costs' codes' starts' : List ℕ} {s : Result Size (Refused Refusal)} (d : ReadsNeeded ws room costs codes starts s costs' codes' starts') where
  -- ── a refused sheet ──
  pub read_refused : {e : Refused Refusal} → s ≡ Err e → decode room ws ≡ bad (fault_of e.kind) e.place
  read_refused {e} u = go (decode room ws) (sym (ap numbers_of u) ∙ d.says)
    where
      go : (x : Read Hall) → numbers_at e.kind e.place ≡ numbers_read (needed_of x) → x ≡ bad (fault_of e.kind) e.place
      go (bad f i) q = let same = refusal_injective f (fault_of e.kind) i e.place (sym q) in rw (same.0, same.1)
      go (got h j) q = absurd (omega (arith, code_large (fault_of e.kind) e.place _ q))

  -- ── an accepted sheet ──
  pub read_lies : {size : Size} → s ≡ Ok size → Lies ws room size.devices size.rules costs' codes' starts'
  read_lies {size} e = go (decode room ws) refl (sym (ap numbers_of e) ∙ d.says) d.arrays
    where
      lies : (h : Hall) (j : ℕ) → decode room ws ≡ got h j → size.devices ≡ length h.costs → size.rules ≡ length (leave_out h.rules)
          → Holds (without h) costs (in_front (entry_codes (entries h.rules)) codes) (in_front (starts_from 0 h.rules) starts) costs' codes' starts' → Lies ws room size.devices size.rules costs' codes' starts'
      lies h j is devices count holds =
          let codes₁ = in_front (entry_codes (entries h.rules)) codes in
          let starts₁ = in_front (starts_from 0 h.rules) starts in
          let sheet_of_lem = decoded ws room h j is in
          rw (devices, count)
          (record {
            whole = h;
            place = j;
            is = is;
            sheet_of_lem = sheet_of_lem;
            few = omega (arith, ap length holds.costs_hold, front_fits h.costs costs);
            number = refl;
            back = hall_back (without h) costs codes₁ starts₁ costs' codes' starts' holds;
            laid = hall_laid (without h) costs codes₁ starts₁ costs' codes' starts' holds (without_in_range h sheet_of_lem.ranges);
            short = omega (arith, hall_end (without h) costs codes₁ starts₁ costs' codes' starts' holds, left_shorter h.rules, few_entries sheet_of_lem);
            starts_room = omega (arith, ap length holds.starts_hold, front_fits (starts_from 0 (leave_out h.rules)) starts₁, starts_length 0 (leave_out h.rules));
          })

      go : (x : Read Hall) → decode room ws ≡ x → 0 ∷ size.devices ∷ size.rules ∷ [] ≡ numbers_read (needed_of x) → ArraysLeft x costs codes starts costs' codes' starts' → Lies ws room size.devices size.rules costs' codes' starts'
      go (bad f i) u q a = absurd (omega (arith, code_large f i _ (sym q)))
      go (got h j) u q a = lies h j u (cc) (cc) a

-- ── the hall as a `Coded` ──
module _ {ws : List ℤ} {room n m : ℕ} {costs codes starts : List ℕ} (x : Lies ws room n m costs codes starts) where
  pub lies_front : take n costs ≡ x.whole.costs
  lies_front = ap (λ (g : Hall). g.costs) x.back

  pub lies_loaded : Loaded (take n costs) codes starts m
  lies_loaded =
      let same = ap length lies_front in
      let ranges = without_in_range x.whole x.sheet_of_lem.ranges in
      let devices = ranges.devices in
      let count = ranges.count in
      record {
        laid = subst (λ (k : ℕ). Laid k codes starts m) (sym same) x.laid;
        short = x.short;
        devices = omega arith;
        cheap = rw lies_front ranges.cheap;
        count = omega (arith, x.number);
        one_way = subst OneWay (sym (ap (λ (y : Hall). y.rules) x.back)) (left_one_way x.whole.rules);
      }
