-- What `map_err(Refused::under)` makes of a sheet's refusal: the same refusal, among the kinds of hindrance, whatever the code of a short
-- room (`under`). That is all that its contract allows (`under_is`). Assumes nothing.
use mathlib.Core.Path.{◌≡◌, ap}
use Prim.Native.Nat.{ℕ}
use Rattle.std.specs.Prelude.{Result, Ok, Err}
use Rattle.std.specs.Result.{MatchResult, IsErrAnd}
use Rattle.refusals.specs.declared.Refusal.{Refusal}
use Rattle.refusals.specs.declared.Refused.{Refused}
use Rattle.refusals.specs.declared.RoomRefusal.{RoomRefusal}
use Rattle.refusals.specs.declared.RoomRefusal.TheVariants.{BadSheet}

module _ {T : Type 0} (code : ℕ) where
  abbrev pub under : Result T (Refused Refusal) → Result T (Refused (RoomRefusal code))
  under (Ok x) = Ok x
  under (Err e) = Err (record { kind = BadSheet e.kind; place = e.place })

  -- the contract, for a result before and afterwards
  abbrev pub Under : Result T (Refused Refusal) → Result T (Refused (RoomRefusal code)) → Type 0
  Under r s = MatchResult r (λ x. s ≡ Ok x) (λ e. IsErrAnd s (λ f. (f.place ≡ e.place) × (f.kind ≡ BadSheet e.kind)))

  pub under_is : (r : Result T (Refused Refusal)) (s : Result T (Refused (RoomRefusal code))) → Under r s → s ≡ under r
  under_is (Ok x) s u = u
  under_is (Err e) (Ok x) u = absurd u
  under_is (Err e) (Err f) u = ap Err (rw (u.0, u.1))
