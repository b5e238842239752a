-- What is known of `r` behind `r.map_err(..)?`: where the `?` goes on, its value (`was_ok`); where it returns, its error, and what of that
-- the closure makes (`was_err`). Assumes nothing.
use mathlib.Core.Bool.{true, false}
use mathlib.Core.Path.{◌≡◌, refl}
use Rattle.std.specs.Prelude.{Result, Ok, Err, MatchResult, is_ok}

module _ {T E : Type 0} where
  pub was_ok : (D : Type 0) (R : E → Type 0) (r : Result T E) (x : T) → true ≡ is_ok r → MatchResult r (λ y. ◌≡◌ {A = Result T D} (Ok x) (Ok y)) R → r ≡ Ok x
  was_ok D R (Ok y) x t m = cc
  was_ok D R (Err e) x t m = absurd (let z : ◌≡◌ true false = t in cc)

  pub was_err : (P : T → Type 0) (R : E → Type 0) (r : Result T E) → false ≡ is_ok r → MatchResult r P R → (e : E) × (r ≡ Err e) × R e
  was_err P R (Ok y) t m = absurd (let z : ◌≡◌ false true = t in cc)
  was_err P R (Err e) t m = (e, refl, m)
