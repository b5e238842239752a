-- The digits of a number: the kit's `io::decimal` gives those of Rattle.typed.specs.Printing (`decimal_is`). Assumes nothing.
use mathlib.Core.Path.{◌≡◌, refl, ap, subst, ◌∙◌, sym}
use mathlib.Core.List.{List, [], ◌∷◌, ◌++◌}
use Prim.Native.Nat.{ℕ, zero, suc, ◌+◌, ◌/◌, ◌%◌, ◌^◌, ◌≤◌, ◌<◌}
use native.Mathlib.Numerals.{sub-one}
use native.Mathlib.Omega.{arith}
use native.Mathlib.Nat.{pow-suc, mod-lt, mod-eq_of_lt, div-lt_iff_lt-mul, le-div_iff_mul-le, div-lt_self, one-le-pow}
use lib.Dec.{lit<}
use borrow.Author.Tests.{lt-ltb, le-ltb}
use Rattle.io.specs.Digits.{last_digits, IsDigitCount}
use Rattle.typed.specs.Printing.{digits_by, digits_of}

-- one digit; more than one
one_digit : (f n : ℕ) → n < 10 → digits_by f n ≡ (48 + n) ∷ []
unfolding digits_by
one_digit zero n h = refl
one_digit (suc f) n h = rw (lt-ltb n 10 h)

more_digits : (f n : ℕ) → 10 ≤ n → digits_by (suc f) n ≡ digits_by f (n / 10) ++ ((48 + n % 10) ∷ [])
unfolding digits_by
more_digits f n h = rw (le-ltb n 10 h)

-- a number below a power of ten has a tenth below the next lower one
below_tenth : (n j : ℕ) → n < 10 ^ suc (suc j) → n / 10 < 10 ^ suc j
below_tenth n j h = (div-lt_iff_lt-mul {k = 10} {x = n} {y = 10 ^ suc j} (lit< tt)).1 (subst (λ (m : ℕ). n < m) (pow-suc 10 (suc j)) h)

decimal_by : (f k n : ℕ) → n ≤ f → IsDigitCount 10 1 n (suc k) → last_digits 10 (suc k) n ≡ digits_by f n
decimal_by f zero n h (some, below, above) =
    let small : n < 10 = omega arith in
    let m = mod-eq_of_lt small in
    let t = lt-ltb n 10 small in
    rw (m, t) (sym (one_digit f n small))
decimal_by zero (suc k) n h (some, below, above) = absurd (let l : 10 ^ suc k ≤ n = rw sub-one at (above (omega arith)) in let o = one-le-pow (suc k) 10 (lit< tt) in omega arith)
decimal_by (suc f) (suc k) n h (some, below, above) =
    let least : 10 ^ suc k ≤ n = rw sub-one at (above (omega arith)) in
    let ten : 10 ≤ n = omega (arith, one-le-pow k 10 (lit< tt), pow-suc 10 k) in
    let over = (le-div_iff_mul-le {k = 10} {x = 10 ^ k} {y = n} (lit< tt)).1 (subst (λ (m : ℕ). m ≤ n) (pow-suc 10 k) least) in
    let t = lt-ltb (n % 10) 10 (mod-lt n {m = 10} (lit< tt)) in
    let fewer : n / 10 ≤ f = omega (arith, div-lt_self {n = n} {k = 10} (omega arith) (lit< tt)) in
    let tenth = decimal_by f k (n / 10) fewer (omega arith, below_tenth n k below, (λ (l : 1 < suc k). rw sub-one over)) in
    rw t (ap (λ (l : List ℕ). l ++ ((48 + n % 10) ∷ [])) tenth ∙ sym (more_digits f n ten))

pub decimal_is : (n k : ℕ) → IsDigitCount 10 1 n k → last_digits 10 k n ≡ digits_of n
decimal_is n zero (some, below, above) = absurd (omega arith)
decimal_is n (suc k) few = decimal_by n k n (omega arith) few
