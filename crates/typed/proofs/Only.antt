-- What follows from the contract of `read` alone.
--
-- In order: the numbers tell the kinds and the answers apart (`code_injective`, `numbers_injective`); two results that the contract allows
-- are equal, the room included (`reads_once`); the answer is the definition's (`reading_is`); a text is refused exactly for its reason
-- (`refused_where`), and accepted exactly where it is allowed and fits (`accepted_where`). Assumes nothing.
use mathlib.Core.Path.{◌≡◌, refl, sym, ◌∙◌, ap, subst}
use mathlib.Core.Logic.{◌↔◌}
use mathlib.Core.Bool.{cond}
use mathlib.Core.List.{List}
use Prim.Native.Nat.{ℕ, ◌<◌}
use native.Mathlib.Omega.{arith}
use lib.ListN.{length, take}
use lib.IntN.{ℤ}
use lib.Dec.{eqb}
use Rattle.std.proofs.Common.{Result, Ok, Err}
use Rattle.refusals.specs.declared.Refused.{Refused}
use Rattle.lists.proofs.InFront.{front_stands}
use Rattle.typed.specs.Text.{mistake_code, Read, read_text}
use Rattle.typed.specs.Allowed.{Accepted}
use Rattle.typed.specs.Reasons.{Reason}
use Rattle.typed.specs.Answer.{reading_of, numbers_of, room_after, Justified, Reads}
use Rattle.typed.specs.declared.Mistake.{Mistake}
use Rattle.typed.specs.declared.Mistake.TheVariants.{WrongByte, BadNumber, TooLong, NoRoom}
use Rattle.typed.proofs.Verdicts.{accepted_exactly, refused_exactly}

-- ── one answer, one room ──
abbrev pub mistake_of : ℕ → Mistake
mistake_of n = cond (eqb n 21) WrongByte (cond (eqb n 22) BadNumber (cond (eqb n 23) TooLong NoRoom))

kind_of_code : (m : Mistake) → mistake_of (mistake_code m) ≡ m
kind_of_code WrongByte = refl
kind_of_code BadNumber = refl
kind_of_code TooLong = refl
kind_of_code NoRoom = refl

pub code_injective : (m n : Mistake) → mistake_code m ≡ mistake_code n → m ≡ n
code_injective m n e = sym (kind_of_code m) ∙ ap mistake_of e ∙ kind_of_code n

code_some : (m : Mistake) → 0 < mistake_code m
code_some WrongByte = omega arith
code_some BadNumber = omega arith
code_some TooLong = omega arith
code_some NoRoom = omega arith

pub numbers_injective : (r s : Result ℕ (Refused Mistake)) → numbers_of r ≡ numbers_of s → r ≡ s
numbers_injective (Ok w) (Ok v) e = cc
numbers_injective (Ok w) (Err d) e = absurd (let z : 0 ≡ mistake_code d.kind = cc in omega (arith, code_some d.kind))
numbers_injective (Err d) (Ok w) e = absurd (let z : 0 ≡ mistake_code d.kind = cc in omega (arith, code_some d.kind))
numbers_injective (Err c) (Err d) e =
    let codes : mistake_code c.kind ≡ mistake_code d.kind = cc in
    let places : c.place ≡ d.place = cc in
    let kinds = code_injective c.kind d.kind codes in
    rw (kinds, places)

pub reads_once : {text : List ℕ} {before : List ℤ} {r s : Result ℕ (Refused Mistake)} {a b : List ℤ} → Reads text before r a → Reads text before s b → (r ≡ s) × (a ≡ b)
reads_once {r = r} {s = s} x y = (numbers_injective r s (x.says ∙ sym y.says), x.room ∙ sym y.room)

-- ── each answer exactly where it is justified ──
module _ {text : List ℕ} {before : List ℤ} {r : Result ℕ (Refused Mistake)} {after : List ℤ} (x : Reads text before r after) where
  pub reading_is : r ≡ reading_of (read_text text (length before))
  reading_is = numbers_injective r (reading_of (read_text text (length before))) x.says

  pub refused_where : (m : Mistake) (i : ℕ) → (r ≡ Err (record { kind = m; place = i })) ↔ Reason m i text (length before)
  refused_where m i = (
    λ e. subst (λ (s : Result ℕ (Refused Mistake)). Justified text (length before) s after) e x.reason,
    λ y. reading_is ∙ ap reading_of ((refused_exactly m i text (length before)).1 y),
  )

  -- with the words that it spells, which then stand in front of the room
  pub accepted_where : (words : List ℤ) → ((r ≡ Ok (length words)) × (take (length words) after ≡ words)) ↔ Accepted text (length before) words
  accepted_where words = (
    λ e. subst (Accepted text (length before)) e.1 (subst (λ (s : Result ℕ (Refused Mistake)). Justified text (length before) s after) e.0 x.reason),
    λ y.
        let g = (accepted_exactly text (length before) words).1 y in
        (reading_is ∙ ap reading_of g, ap (take (length words)) (x.room ∙ ap (λ (z : Read (List ℤ)). room_after z before) g) ∙ front_stands words before),
  )
