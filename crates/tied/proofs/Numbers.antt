-- The numbers of an answer tell it.
--
-- In order: a refusal has none of the codes 0, 1 and 2 (`hindrance_large`), and 51 is no code of a sheet's; equal numbers, equal refusals
-- (`hindrance_only`) and equal answers (`numbers_injective`); a list as an answer of the program (`tied_of`), whatever code a short room
-- has there. The claim: `tied_is`. Assumes nothing.
use mathlib.Core.Path.{◌≡◌, refl, sym, ◌∙◌, ap, subst}
use mathlib.Core.List.{List, [], ◌∷◌}
use Prim.Native.Nat.{ℕ, ◌≤◌}
use native.Mathlib.Omega.{arith}
use lib.ListN.{length, get_or}
use Rattle.hall.specs.Listing.{Listing, listed, none, spent, refused, short, list_numbers}
use Rattle.hall.proofs.Refusals.{code_large, tells}
use Rattle.refusals.specs.Contract.{fault_of, kind_of, numbers_at}
use Rattle.refusals.specs.declared.Refusal.{Refusal}
use Rattle.refusals.proofs.Faults.{fault_kind}
use Rattle.refusals.proofs.Only.{refusal_only}
use Rattle.refusals.specs.declared.Refused.{Refused}
use Rattle.refusals.specs.declared.RoomRefusal.{RoomRefusal}
use Rattle.refusals.specs.declared.RoomRefusal.TheVariants.{BadSheet, ShortRoom}
use Rattle.std.specs.Prelude.{Result, Ok, Err}
use Rattle.tied.specs.declared.Tied.{Tied}
use Rattle.tied.specs.declared.Tied.TheVariants.{Plans, None, Spent}
use Rattle.tied.specs.Contract.{Hindrance, hindrance_numbers, numbers_of}

-- ── refusals ──
pub hindrance_large : (x : Hindrance) (place : ℕ) (numbers : List ℕ) → hindrance_numbers x place ≡ numbers → 11 ≤ get_or numbers 0 0
hindrance_large (BadSheet k) place numbers e = code_large (fault_of k) place numbers e
hindrance_large ShortRoom place numbers e = subst (λ (l : List ℕ). 11 ≤ get_or l 0 0) e (omega arith)

small_code : (k : Refusal) (i j : ℕ) → numbers_at k i ≡ 51 ∷ j ∷ [] → ⊥
small_code k i j e = let t = (tells (fault_of k) i).small in omega (arith, ap (λ (l : List ℕ). get_or l 0 0) e)

pub hindrance_only : (x y : Hindrance) (i j : ℕ) → hindrance_numbers x i ≡ hindrance_numbers y j → (x ≡ y) × (i ≡ j)
hindrance_only (BadSheet k) (BadSheet l) i j e = let z = refusal_only k l i j e in (ap BadSheet z.0, z.1)
hindrance_only (BadSheet k) ShortRoom i j e = absurd (small_code k i j e)
hindrance_only ShortRoom (BadSheet l) i j e = absurd (small_code l j i (sym e))
hindrance_only ShortRoom ShortRoom i j e = (refl, cc)

-- ── answers ──
pub numbers_injective : (r s : Result Tied (Refused Hindrance)) → numbers_of r ≡ numbers_of s → r ≡ s
numbers_injective (Ok (Plans c k n o)) (Ok (Plans c' k' n' o')) e =
    let u : c ≡ c' = cc in
    let v : k ≡ k' = cc in
    let w : n ≡ n' = cc in
    let x : o ≡ o' = cc in
    rw (u, v, w, x)
numbers_injective (Ok (Plans c k n o)) (Ok (None o')) e = absurd (let z : ◌≡◌ {A = ℕ} 0 1 = cc in omega arith)
numbers_injective (Ok (Plans c k n o)) (Ok (Spent o')) e = absurd (let z : ◌≡◌ {A = ℕ} 0 2 = cc in omega arith)
numbers_injective (Ok (Plans c k n o)) (Err y) e = absurd (omega (arith, hindrance_large y.kind y.place _ (sym e)))
numbers_injective (Ok (None o)) (Ok (Plans c k n o')) e = absurd (let z : ◌≡◌ {A = ℕ} 1 0 = cc in omega arith)
numbers_injective (Ok (None o)) (Ok (None o')) e = let x : o ≡ o' = cc in rw x
numbers_injective (Ok (None o)) (Ok (Spent o')) e = absurd (let z : ◌≡◌ {A = ℕ} 1 2 = cc in omega arith)
numbers_injective (Ok (None o)) (Err y) e = absurd (omega (arith, hindrance_large y.kind y.place _ (sym e)))
numbers_injective (Ok (Spent o)) (Ok (Plans c k n o')) e = absurd (let z : ◌≡◌ {A = ℕ} 2 0 = cc in omega arith)
numbers_injective (Ok (Spent o)) (Ok (None o')) e = absurd (let z : ◌≡◌ {A = ℕ} 2 1 = cc in omega arith)
numbers_injective (Ok (Spent o)) (Ok (Spent o')) e = let x : o ≡ o' = cc in rw x
numbers_injective (Ok (Spent o)) (Err y) e = absurd (omega (arith, hindrance_large y.kind y.place _ (sym e)))
numbers_injective (Err x) (Ok (Plans c k n o)) e = absurd (omega (arith, hindrance_large x.kind x.place _ e))
numbers_injective (Err x) (Ok (None o)) e = absurd (omega (arith, hindrance_large x.kind x.place _ e))
numbers_injective (Err x) (Ok (Spent o)) e = absurd (omega (arith, hindrance_large x.kind x.place _ e))
numbers_injective (Err x) (Err y) e = let z = hindrance_only x.kind y.kind x.place y.place e in ap Err (rw (z.0, z.1))

-- ── a list as an answer ──
abbrev pub tied_of : {code : ℕ} → Listing → Result Tied (Refused (RoomRefusal code))
tied_of (listed cost held opened ps) = Ok (Plans cost held (length ps) opened)
tied_of (none opened) = Ok (None opened)
tied_of (spent opened) = Ok (Spent opened)
tied_of (refused f place) = Err (record { kind = BadSheet (kind_of f); place = place })
tied_of (short place) = Err (record { kind = ShortRoom; place = place })

pub tied_numbers : (a : Listing) → numbers_of (tied_of {code = 51} a) ≡ list_numbers a
tied_numbers (listed cost held opened ps) = refl
tied_numbers (none opened) = refl
tied_numbers (spent opened) = refl
tied_numbers (refused f place) = rw (fault_kind f) refl
tied_numbers (short place) = refl

pub tied_is : (r : Result Tied (Refused Hindrance)) (a : Listing) → numbers_of r ≡ list_numbers a → r ≡ tied_of a
tied_is r a e = numbers_injective r (tied_of a) (e ∙ sym (tied_numbers a))
