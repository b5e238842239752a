-- What one token says, case by case.
--
-- In order: 21 (`wrong_none`, `wrong_behind`, `right`) and 22 (`bad_many`, `bad_value`, `good`) as tests; what they decide
-- (`judged_by_lem`). Assumes nothing.
use mathlib.Core.Path.{◌≡◌, ap}
use mathlib.Core.Bool.{Bool, true, false, not}
use mathlib.Core.List.{List}
use Prim.Native.Nat.{ℕ, ◌≤◌, ◌<◌}
use lib.ListN.{length}
use lib.Dec.{eqb, ltb}
use borrow.Author.Tests.{eq-eqb, ne_eqb, lt-ltb, le-ltb}
use Rattle.lists.proofs.Cases.{or_right}
use Rattle.typed.specs.Text.{digits_in, is_wrong, decimal, signed, fits_word, is_bad, judged, number_of}

module _ (ds : List ℕ) where
  pub wrong_none : digits_in ds ≡ 0 → is_wrong ds ≡ true
  wrong_none e = rw (eq-eqb (digits_in ds) 0 e)

  pub wrong_behind : digits_in ds < length ds → is_wrong ds ≡ true
  wrong_behind h = or_right (eqb (digits_in ds) 0) _ (lt-ltb (digits_in ds) (length ds) h)

  pub right : (digits_in ds ≡ 0 → ⊥) → length ds ≤ digits_in ds → is_wrong ds ≡ false
  right n h = rw (ne_eqb (digits_in ds) 0 n, le-ltb (digits_in ds) (length ds) h)

  module _ (minus : Bool) where
    pub bad_many : 10 < length ds → is_bad minus ds ≡ true
    bad_many h = rw (lt-ltb 10 (length ds) h)

    pub bad_value : fits_word (signed minus (decimal 0 ds)) ≡ false → is_bad minus ds ≡ true
    bad_value e = or_right (ltb 10 (length ds)) _ (ap not e)

    pub good : length ds ≤ 10 → fits_word (signed minus (decimal 0 ds)) ≡ true → is_bad minus ds ≡ false
    good h e = rw (le-ltb 10 (length ds) h, e)

    pub judged_by_lem : (place : ℕ) {w b : Bool} → is_wrong ds ≡ w → is_bad minus ds ≡ b → number_of minus place ds ≡ judged w b minus place ds
    unfolding number_of
    judged_by_lem place u v = rw (u, v)
