-- What a code says is what its entry says.
--
-- In order: holding, being free, meeting and releasing, by the code (`holds_code`, `free_code`, `hold_code`,
-- `release_code`); a free device that is held and released is as it was (`release_hold`). Assumes nothing.
use mathlib.Core.Path.{◌≡◌, refl, sym, ap, ◌∙◌}
use mathlib.Core.Bool.{true}
use mathlib.Core.List.{[], ◌∷◌}
use Prim.Native.Nat.{ℕ, zero, suc, ◌+◌, ◌/◌, ◌%◌, ◌<◌}
use native.Mathlib.Omega.{arith}
use lib.Dec.{eqb}
use lib.ListN.{length, get_or, set}
use lib.Seq.{set-set, set-get_or}
use borrow.Author.Tests.{eqb-true}
use Rattle.hall.specs.Hall.{Entry, device, Plan, holds, is_free, hold}
use Rattle.sheet.specs.Coded.{entry_of}
use Rattle.sheet.proofs.Codes.{device_of, mark_of}
use Rattle.walk.specs.Plan.{release}

-- a device that the plan has reads the same whatever is read behind the end
get_d_within : (p : Plan) (d x y : ℕ) → d < length p → get_or p d x ≡ get_or p d y
get_d_within [] d x y h = absurd (omega arith)
get_d_within (a ∷ p) zero x y h = refl
get_d_within (a ∷ p) (suc d) x y h = get_d_within p d x y (omega arith)

pub holds_code : (p : Plan) (code : ℕ) → holds p (entry_of code) ≡ eqb (get_or p (code / 2) 0) (1 + code % 2)
unfolding holds
holds_code p code = rw (device_of code, mark_of code) refl

pub free_code : (p : Plan) (code : ℕ) → code / 2 < length p → is_free p (entry_of code) ≡ eqb (get_or p (code / 2) 0) 0
unfolding is_free
free_code p code h = rw (device_of code, get_d_within p (code / 2) 1 0 h) refl

pub hold_code : (p : Plan) (code : ℕ) → hold p (entry_of code) ≡ set p (code / 2) (1 + code % 2)
unfolding hold
hold_code p code = rw (device_of code, mark_of code) refl

pub release_code : (p : Plan) (code : ℕ) → release p (entry_of code) ≡ set p (code / 2) 0
unfolding release
release_code p code = rw (device_of code) refl

pub release_hold : (p : Plan) (e : Entry) → is_free p e ≡ true → release (hold p e) e ≡ p
unfolding release hold is_free
release_hold p e f = rw set-set (ap (set p (device e)) (sym (eqb-true _ _ f)) ∙ set-get_or p (device e) 1)
