-- What follows from the contract of `read` alone.
--
-- In order: the numbers tell the refusals and the answers apart (`flaw_injective`, `numbers_injective`); two results that the contract
-- allows are equal, the room included (`files_once`); a file is refused exactly for its reason (`refused_where`), and accepted exactly where
-- it stands as it should and fits, with its hall (`accepted_where`); what is read decodes to that hall (`DecodesFor`, `decodes_for`).
-- Assumes nothing.
use mathlib.Core.Path.{◌≡◌, refl, sym, ◌∙◌, ap, subst}
use mathlib.Core.Logic.{◌↔◌}
use mathlib.Core.Bool.{Bool, cond}
use mathlib.Core.List.{List, []}
use Prim.Native.Nat.{ℕ, suc, ◌-◌, ◌≤◌}
use native.Mathlib.Omega.{arith}
use lib.ListN.{length, get_or, take, replicate}
use lib.IntN.{ℤ}
use lib.Dec.{eqb, ltb}
use borrow.Author.Tests.{lt-ltb}
use Rattle.std.proofs.Common.{Result, Ok, Err}
use Rattle.refusals.specs.declared.Refused.{Refused}
use Rattle.lists.proofs.InFront.{front_stands}
use Rattle.hall.specs.Hall.{Rule, Hall}
use Rattle.hall.specs.Ranges.{words}
use Rattle.hall.specs.Reading.{Fault, refusal_numbers, got, decode}
use Rattle.hall.proofs.Words.{words_injective}
use Rattle.hall.proofs.Sheets.{accepted}
use Rattle.hall.proofs.Refusals as refusals
use Rattle.refusals.specs.Contract.{fault_of, kind_of}
use Rattle.refusals.proofs.Faults.{kind_fault}
use Rattle.typed.specs.declared.Mistake.TheVariants.{WrongByte, BadNumber, TooLong, NoRoom}
use Rattle.typed.proofs.Only.{mistake_of}
use Rattle.dimacs.specs.declared.Flaw.{Flaw}
use Rattle.dimacs.specs.declared.Flaw.TheVariants.{Text, Sheet, NoHeader, NotClosed, ExtraToken}
use Rattle.dimacs.specs.Stage.{inside}
use Rattle.dimacs.specs.File.{flaw_numbers, Parsed, read_file}
use Rattle.dimacs.specs.Standing.{lined, Standing, Accepted}
use Rattle.dimacs.specs.Reasons.{Reason}
use Rattle.dimacs.specs.Contract.{filed_of, numbers_of, room_after, SheetRead, Justified, Files}
use Rattle.dimacs.proofs.Verdicts.{accepted_exactly, refused_exactly}
use Rattle.dimacs.proofs.Answers.{accepted_devices, accepted_ones}

-- ── one answer, one room ──
-- the kind that numbers tell: those of a sheet's refusal have codes up to 19, those of a text's from 21 to 24
abbrev others_by : (code : ℕ) → Flaw
others_by code = cond (ltb code 30) (Text (mistake_of code)) (cond (eqb code 31) NoHeader (cond (eqb code 32) NotClosed ExtraToken))

abbrev flaw_of : (code : ℕ) → List ℕ → Flaw
flaw_of code l = cond (ltb code 20) (Sheet (kind_of (refusals.fault_at (code - 11) l))) (others_by code)

-- what each kind's numbers say
record Identifies (f : Flaw) (place : ℕ) (numbers : List ℕ) : Type 0 where
  large : 11 ≤ get_or numbers 0 0
  kind : flaw_of (get_or numbers 0 0) numbers ≡ f
  at : get_or numbers 1 0 ≡ place

tells : (f : Flaw) (place : ℕ) → Identifies f place (flaw_numbers f place)
tells (Sheet k) place =
    let t = refusals.tells (fault_of k) place in
    let numbers = refusal_numbers (fault_of k) place in
    let code = get_or numbers 0 0 in
    record {
      large = t.large;
      kind =
          ap (λ (b : Bool). cond b (Sheet (kind_of (refusals.fault_at (code - 11) numbers))) (others_by code)) (lt-ltb code 20 (omega (arith, t.small)))
          ∙ ap (λ (f : Fault). Sheet (kind_of f)) t.kind
          ∙ ap Sheet (kind_fault k);
      at = t.at;
    }
tells (Text WrongByte) place = record { large = omega arith; kind = refl; at = refl }
tells (Text BadNumber) place = record { large = omega arith; kind = refl; at = refl }
tells (Text TooLong) place = record { large = omega arith; kind = refl; at = refl }
tells (Text NoRoom) place = record { large = omega arith; kind = refl; at = refl }
tells NoHeader place = record { large = omega arith; kind = refl; at = refl }
tells NotClosed place = record { large = omega arith; kind = refl; at = refl }
tells ExtraToken place = record { large = omega arith; kind = refl; at = refl }

flaw_injective : (f g : Flaw) (i j : ℕ) → flaw_numbers f i ≡ flaw_numbers g j → (f ≡ g) × (i ≡ j)
flaw_injective f g i j e = (
  sym (tells f i).kind ∙ ap (λ (l : List ℕ). flaw_of (get_or l 0 0) l) e ∙ (tells g j).kind,
  sym (tells f i).at ∙ ap (λ (l : List ℕ). get_or l 1 0) e ∙ (tells g j).at,
)

-- no refusal has the code 0
code_some : (f : Flaw) (i w : ℕ) → flaw_numbers f i ≡ numbers_of (Ok w) → ⊥
code_some f i w e = let z : get_or (flaw_numbers f i) 0 0 ≡ 0 = ap (λ (l : List ℕ). get_or l 0 0) e in omega (arith, (tells f i).large)

-- the second number of an answer is the sheet's length
words_of : {w v : ℕ} → numbers_of (Ok w) ≡ numbers_of (Ok v) → w ≡ v
words_of e = ap (λ (l : List ℕ). get_or l 1 0) e

pub numbers_injective : (r s : Result ℕ (Refused Flaw)) → numbers_of r ≡ numbers_of s → r ≡ s
numbers_injective (Ok w) (Ok v) e = ap Ok (words_of e)
numbers_injective (Ok w) (Err e) q = absurd (code_some e.kind e.place w (sym q))
numbers_injective (Err e) (Ok w) q = absurd (code_some e.kind e.place w q)
numbers_injective (Err e) (Err d) q = let x = flaw_injective e.kind d.kind e.place d.place q in ap Err (rw (x.0, x.1))

pub files_once : {text : List ℕ} {before : List ℤ} {r s : Result ℕ (Refused Flaw)} {a b : List ℤ} → Files text before r a → Files text before s b → (r ≡ s) × (a ≡ b)
files_once {r = r} {s = s} x y = (numbers_injective r s (x.says ∙ sym y.says), x.room ∙ sym y.room)

-- ── each answer exactly where it is justified ──
module _ {text : List ℕ} {before : List ℤ} {r : Result ℕ (Refused Flaw)} {after : List ℤ} (x : Files text before r after) where
  is : r ≡ filed_of (read_file text (length before))
  is = numbers_injective r (filed_of (read_file text (length before))) x.says

  pub refused_where : (f : Flaw) (i : ℕ) → (r ≡ Err (record { kind = f; place = i })) ↔ Reason f i text (length before)
  refused_where f i = (
    λ e. subst (λ (r : Result ℕ (Refused Flaw)). Justified text (length before) r after) e x.reason,
    λ y. is ∙ ap filed_of ((refused_exactly f i text (length before)).1 y),
  )

  -- with its hall, whose sheet then stands in front of the room: no other hall has these words
  pub accepted_where : (h : Hall)
      → ((r ≡ Ok (length (words h))) × (take (length (words h)) after ≡ words h)) ↔ Accepted text (length before) h
  accepted_where h = (
    λ e.
        let s : SheetRead text (length before) (length (words h)) after = subst (λ (r : Result ℕ (Refused Flaw)). Justified text (length before) r after) e.0 x.reason in
        let same : words h ≡ words s.hall = sym e.1 ∙ (s.sheet (length s.hall.costs) (omega arith)).sheet in
        subst (Accepted text (length before)) (sym (words_injective h s.hall same)) s.accepted,
    λ y.
        let g = (accepted_exactly text (length before) h).1 y in
        (is ∙ ap filed_of g, ap (take (length (words h))) (x.room ∙ ap (λ (z : Parsed). room_after z before) g) ∙ front_stands (words h) before),
  )

-- ── what is read decodes ──
-- a file that is accepted, and its hall: every cost is 1, the rules are exactly the clauses that stand in the file, and the words that were
-- read decode to it, for any plan room that has a byte for each device
pub record DecodesFor (text : List ℕ) (room w : ℕ) (after : List ℤ) : Type 0 where
  pub hall : Hall
  pub accepted : Accepted text room hall
  pub ones : hall.costs ≡ replicate (length hall.costs) 1
  pub clauses : Standing (lined text) room (inside (length hall.costs) (length hall.rules) hall.rules []) (suc (length text)) []
  pub decodes : (plan : ℕ) → length hall.costs ≤ plan → decode plan (take w after) ≡ got hall w

pub decodes_for : {text : List ℕ} {before : List ℤ} {w : ℕ} {after : List ℤ} → Files text before (Ok w) after → DecodesFor text (length before) w after
decodes_for {text} {before} {w} {after} x =
    let s : SheetRead text (length before) w after = x.reason in
    let h = s.hall in
    let a = s.accepted in
    let stands : List Rule → ℕ → Type 0 = λ rules n. Standing (lined text) (length before) (inside n (length rules) rules []) (suc (length text)) [] in
    let size : w ≡ length (words h) = words_of (x.says ∙ ap (λ (z : Parsed). numbers_of (filed_of z)) ((accepted_exactly text (length before) h).1 a)) in
    record {
      hall = h;
      accepted = a;
      ones = accepted_ones a;
      clauses =
          subst (stands h.rules) (sym (accepted_devices a))
          (subst (λ (rules : List Rule). stands rules a.n) (sym (ap (λ (h : Hall). h.rules) a.hall)) a.stands);
      decodes = λ plan l.
          let sheet = s.sheet plan l in
          accepted plan (take w after) h sheet ∙ ap (got h) (ap length sheet.sheet ∙ sym size);
    }
