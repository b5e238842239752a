-- The contract leaves no choice: equal numbers, equal answers (`numbers_injective`); two results that the contract of `read` allows are
-- equal, the arrays included (`decodes_only`). Assumes nothing.
use mathlib.Core.Path.{◌≡◌, sym, ◌∙◌, ap}
use mathlib.Core.List.{List}
use Prim.Native.Nat.{ℕ}
use native.Mathlib.Omega.{arith}
use lib.IntN.{ℤ}
use Rattle.std.specs.Prelude.{Result, Ok, Err}
use Rattle.hall.specs.Hall.{Hall}
use Rattle.hall.specs.Reading.{Read, bad, got, decode}
use Rattle.hall.proofs.Refusals.{code_large}
use Rattle.refusals.specs.Contract.{fault_of}
use Rattle.refusals.specs.declared.Refusal.{Refusal}
use Rattle.refusals.specs.declared.Refused.{Refused}
use Rattle.refusals.proofs.Only.{refusal_only}
use Rattle.sheet.specs.Contract.{numbers_of, ArraysAfter, Decodes}
use Rattle.sheet.specs.declared.Size.{Size}

pub numbers_injective : (r s : Result Size (Refused Refusal)) → numbers_of r ≡ numbers_of s → r ≡ s
numbers_injective (Ok a) (Ok b) e = let d : a.devices ≡ b.devices = cc in let r : a.rules ≡ b.rules = cc in ap Ok (rw (d, r))
numbers_injective (Ok a) (Err b) e = absurd (omega (arith, code_large (fault_of b.kind) b.place _ (sym e)))
numbers_injective (Err a) (Ok b) e = absurd (omega (arith, code_large (fault_of a.kind) a.place _ e))
numbers_injective (Err a) (Err b) e = let x = refusal_only a.kind b.kind a.place b.place e in ap Err (rw (x.0, x.1))

module _ (ws : List ℤ) (room : ℕ) (costs codes starts : List ℕ) where
  arrays_only : (x : Read Hall) (a b c a' b' c' : List ℕ) → ArraysAfter x costs codes starts a b c → ArraysAfter x costs codes starts a' b' c' → (a ≡ a') × (b ≡ b') × (c ≡ c')
  arrays_only (bad f i) a b c a' b' c' h k = (h.costs_kept ∙ sym k.costs_kept, h.codes_kept ∙ sym k.codes_kept, h.starts_kept ∙ sym k.starts_kept)
  arrays_only (got g j) a b c a' b' c' h k = (h.costs_hold ∙ sym k.costs_hold, h.codes_hold ∙ sym k.codes_hold, h.starts_hold ∙ sym k.starts_hold)

  pub decodes_only : (r r' : Result Size (Refused Refusal)) (a b c a' b' c' : List ℕ) → Decodes ws room costs codes starts r a b c → Decodes ws room costs codes starts r' a' b' c' → (r ≡ r') × (a ≡ a') × (b ≡ b') × (c ≡ c')
  decodes_only r r' a b c a' b' c' h k =
      let s = arrays_only (decode room ws) a b c a' b' c' h.arrays k.arrays in
      (numbers_injective r r' (h.says ∙ sym k.says), s.0, s.1, s.2)
