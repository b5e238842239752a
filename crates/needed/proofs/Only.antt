-- The contract leaves no choice: two results that the contract of `read` allows are equal, the arrays included (`reads_only`). Assumes
-- nothing.
use mathlib.Core.Path.{◌≡◌, sym, ◌∙◌}
use mathlib.Core.List.{List}
use Prim.Native.Nat.{ℕ}
use lib.IntN.{ℤ}
use Rattle.hall.specs.Hall.{Hall}
use Rattle.hall.specs.Reading.{Read, bad, got, decode}
use Rattle.std.specs.Prelude.{Result}
use Rattle.refusals.specs.declared.Refusal.{Refusal}
use Rattle.refusals.specs.declared.Refused.{Refused}
use Rattle.sheet.specs.declared.Size.{Size}
use Rattle.sheet.proofs.Only.{numbers_injective}
use Rattle.needed.specs.Contract.{ArraysLeft, ReadsNeeded}

module _ (ws : List ℤ) (room : ℕ) (costs codes starts : List ℕ) where
  left_only : (x : Read Hall) (a b c a' b' c' : List ℕ) → ArraysLeft x costs codes starts a b c → ArraysLeft x costs codes starts a' b' c' → (a ≡ a') × (b ≡ b') × (c ≡ c')
  left_only (bad f i) a b c a' b' c' h k = (h.costs_kept ∙ sym k.costs_kept, h.codes_kept ∙ sym k.codes_kept, h.starts_kept ∙ sym k.starts_kept)
  left_only (got g j) a b c a' b' c' h k = (h.costs_hold ∙ sym k.costs_hold, h.codes_hold ∙ sym k.codes_hold, h.starts_hold ∙ sym k.starts_hold)

  pub reads_only : (r r' : Result Size (Refused Refusal)) (a b c a' b' c' : List ℕ) → ReadsNeeded ws room costs codes starts r a b c → ReadsNeeded ws room costs codes starts r' a' b' c' → (r ≡ r') × (a ≡ a') × (b ≡ b') × (c ≡ c')
  reads_only r r' a b c a' b' c' h k =
      let s = left_only (decode room ws) a b c a' b' c' h.arrays k.arrays in
      (numbers_injective r r' (h.says ∙ sym k.says), s.0, s.1, s.2)
