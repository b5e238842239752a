-- What a caller of `best_of` and `ties_of` knows: the outcome is what was found.
--
-- In order: equal numbers, equal outcomes (`numbers_injective`); what is found, as an outcome (`outcome_of`). The claims: `outcome_is`,
-- `found_only`. Assumes nothing.
use mathlib.Core.Path.{◌≡◌, refl, sym, ◌∙◌, ap}
use mathlib.Core.List.{List}
use Prim.Native.Nat.{ℕ, min}
use native.Mathlib.Omega.{arith}
use lib.ListN.{length}
use Rattle.hall.proofs.Refusals.{code_large}
use Rattle.refusals.specs.Contract.{fault_of, kind_of}
use Rattle.refusals.proofs.Faults.{fault_kind}
use Rattle.refusals.specs.declared.Refusal.{Refusal}
use Rattle.refusals.specs.declared.Refused.{Refused}
use Rattle.refusals.proofs.Only.{refusal_only}
use Rattle.std.specs.Prelude.{Result, Ok, Err}
use Rattle.walk.specs.Contract as specs
use Rattle.walk.specs.Contract.{numbers_of, Found, found_numbers, Finds}
use Rattle.walk.specs.declared.Outcome.{Outcome}
use Rattle.walk.specs.declared.Outcome.TheVariants.{Best, None, Spent}

-- ── equal numbers, equal outcomes ──
pub numbers_injective : (r s : Result Outcome (Refused Refusal)) → numbers_of r ≡ numbers_of s → r ≡ s
numbers_injective (Ok (Best n c k q o)) (Ok (Best n' c' k' q' o')) e =
    let u : n ≡ n' = cc in
    let v : c ≡ c' = cc in
    let w : k ≡ k' = cc in
    let x : q ≡ q' = cc in
    let y : o ≡ o' = cc in
    rw (u, v, w, x, y)
numbers_injective (Ok (Best n c k q o)) (Ok (None o')) e = absurd (let z : ◌≡◌ {A = ℕ} 0 1 = cc in omega arith)
numbers_injective (Ok (Best n c k q o)) (Ok (Spent o')) e = absurd (let z : ◌≡◌ {A = ℕ} 0 2 = cc in omega arith)
numbers_injective (Ok (Best n c k q o)) (Err f) e = absurd (omega (arith, code_large (fault_of f.kind) f.place _ (sym e)))
numbers_injective (Ok (None o)) (Ok (Best n c k q o')) e = absurd (let z : ◌≡◌ {A = ℕ} 1 0 = cc in omega arith)
numbers_injective (Ok (None o)) (Ok (None o')) e = ap (λ (n : ℕ). Ok (None n)) (cc)
numbers_injective (Ok (None o)) (Ok (Spent o')) e = absurd (let z : ◌≡◌ {A = ℕ} 1 2 = cc in omega arith)
numbers_injective (Ok (None o)) (Err f) e = absurd (omega (arith, code_large (fault_of f.kind) f.place _ (sym e)))
numbers_injective (Ok (Spent o)) (Ok (Best n c k q o')) e = absurd (let z : ◌≡◌ {A = ℕ} 2 0 = cc in omega arith)
numbers_injective (Ok (Spent o)) (Ok (None o')) e = absurd (let z : ◌≡◌ {A = ℕ} 2 1 = cc in omega arith)
numbers_injective (Ok (Spent o)) (Ok (Spent o')) e = ap (λ (n : ℕ). Ok (Spent n)) (cc)
numbers_injective (Ok (Spent o)) (Err f) e = absurd (omega (arith, code_large (fault_of f.kind) f.place _ (sym e)))
numbers_injective (Err f) (Ok (Best n c k q o)) e = absurd (omega (arith, code_large (fault_of f.kind) f.place _ e))
numbers_injective (Err f) (Ok (None o)) e = absurd (omega (arith, code_large (fault_of f.kind) f.place _ e))
numbers_injective (Err f) (Ok (Spent o)) e = absurd (omega (arith, code_large (fault_of f.kind) f.place _ e))
numbers_injective (Err f) (Err g) e = let x = refusal_only f.kind g.kind f.place g.place e in ap Err (rw (x.0, x.1))

-- ── what is found, as an outcome ──
abbrev pub outcome_of : Found → Result Outcome (Refused Refusal)
outcome_of (specs.best n cost held opened ps) = Ok (Best n cost held (min 257 (length ps)) opened)
outcome_of (specs.none opened) = Ok (None opened)
outcome_of (specs.spent opened) = Ok (Spent opened)
outcome_of (specs.refused f i) = Err (record { kind = kind_of f; place = i })

outcome_numbers : (f : Found) → numbers_of (outcome_of f) ≡ found_numbers f
outcome_numbers (specs.best n cost held opened ps) = refl
outcome_numbers (specs.none opened) = refl
outcome_numbers (specs.spent opened) = refl
outcome_numbers (specs.refused f place) = rw (fault_kind f) refl

pub outcome_is : {f : Found} {before : List ℕ} {r : Result Outcome (Refused Refusal)} {after : List ℕ} → Finds f before r after → r ≡ outcome_of f
outcome_is {f} {r = r} x = numbers_injective r (outcome_of f) (x.says ∙ sym (outcome_numbers f))

-- two results that the contract allows are equal, the room included
pub found_only : {f : Found} {before : List ℕ} (r s : Result Outcome (Refused Refusal)) (after after' : List ℕ) → Finds f before r after → Finds f before s after' → (r ≡ s) × (after ≡ after')
found_only r s after after' x y = (numbers_injective r s (x.says ∙ sym y.says), x.room ∙ sym y.room)
