-- The number that at most ten digits say, digit by digit, as a loop computes it.
--
-- In order: each byte is one of a digit (`byte_range`); what a loop knows after so many digits (`Summed`), that the number is small
-- enough for one digit more (`bounded`), with that digit (`summed_more`), and at its end (`summed_all`). Assumes nothing.
use mathlib.Core.Path.{◌≡◌, sym, ◌∙◌, ap}
use mathlib.Core.List.{List}
use Prim.Native.Nat.{ℕ, suc, ◌+◌, ◌-◌, ◌*◌, ◌≤◌, ◌<◌, ◌^◌}
use native.Mathlib.Omega.{arith}
use native.Mathlib.Numerals.{add-one}
use native.Mathlib.Nat.{pow-suc, pow-le-pow_right, lt_of_lt_of_le}
use lib.ListN.{length, get_or, drop, drop_of_length-le}
use lib.Seq.{drop-cons}
use lib.Dec.{lit<}
use Rattle.std.proofs.lemmas.List.Sums.{prefix_len_passes}
use Rattle.typed.specs.Text.{is_digit, digits_in, decimal}
use Rattle.typed.proofs.Digits.{digit_range}
use Rattle.typed.proofs.Fronts.{front_counted}

pub byte_range : (ds : List ℕ) (i : ℕ) → digits_in ds ≡ length ds → i < length ds → (48 ≤ get_or ds i 0) × (get_or ds i 0 ≤ 57)
byte_range ds i all h = digit_range (get_or ds i 0) (prefix_len_passes is_digit ds i 0 (omega (arith, front_counted is_digit ds, all)))

-- n with the digits that are left says what all of them say; n has at most i digits
pub record Summed (ds : List ℕ) (n i : ℕ) : Type 0 where
  pub says : decimal n (drop i ds) ≡ decimal 0 ds
  pub small : n < 10 ^ i

module _ {ds : List ℕ} {n i : ℕ} (s : Summed ds n i) where
  pub bounded : i < length ds → length ds ≤ 10 → n < 1000000000
  bounded h few = lt_of_lt_of_le s.small (pow-le-pow_right {n = 10} (lit< tt) {i = i} {j = 9} (omega arith))

  pub summed_more : digits_in ds ≡ length ds → i < length ds → {d : ℕ} → d ≡ get_or ds i 0 - 48 → Summed ds (n * 10 + d) (i + 1)
  unfolding decimal
  summed_more all h e =
      let m : 10 ^ suc i ≡ 10 ^ i * 10 = pow-suc 10 i in
      record {
        says = rw (add-one i) (ap (λ (d : ℕ). decimal (n * 10 + d) (drop (suc i) ds)) e ∙ sym (ap (decimal n) (drop-cons ds i 0 h)) ∙ s.says);
        small = rw (add-one i) (omega (arith, e, s.small, byte_range ds i all h));
      }

  pub summed_all : length ds ≤ i → n ≡ decimal 0 ds
  unfolding decimal
  summed_all h = sym (ap (decimal n) (drop_of_length-le ds h)) ∙ s.says
