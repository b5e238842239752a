-- The contract leaves no choice: equal numbers, equal refusals (`refusal_only`); two results that the contract of `tell` allows
-- are equal, the array included (`tells_only`). Assumes nothing.
use mathlib.Core.Path.{◌≡◌, sym, ◌∙◌, ap}
use mathlib.Core.List.{List}
use Prim.Native.Nat.{ℕ}
use Rattle.hall.proofs.Refusals.{refusal_injective}
use Rattle.refusals.specs.Contract.{fault_of, kind_of, numbers_at, Tells}
use Rattle.refusals.specs.declared.Refusal.{Refusal}
use Rattle.refusals.proofs.Faults.{kind_fault}

pub refusal_only : (k l : Refusal) (p q : ℕ) → numbers_at k p ≡ numbers_at l q → (k ≡ l) × (p ≡ q)
refusal_only k l p q e =
    let x = refusal_injective (fault_of k) (fault_of l) p q e in
    (sym (kind_fault k) ∙ ap kind_of x.0 ∙ kind_fault l, x.1)

pub tells_only : (told before : List ℕ) (r r' : ℕ) (after after' : List ℕ) → Tells told before r after → Tells told before r' after' → (r ≡ r') × (after ≡ after')
tells_only told before r r' after after' h k = (h.says ∙ sym k.says, h.room ∙ sym k.room)
