-- The bytes that a token is made of.
--
-- In order: the range of a digit (`digit_range`); digits and the minus are no
-- separators (`digit_in_token`, `minus_in_token`). Assumes nothing.
use mathlib.Core.Path.{◌≡◌, refl}
use mathlib.Core.Bool.{Bool, true, false, ◌&&◌, false≢true}
use Prim.Native.Nat.{ℕ, ◌≤◌}
use native.Mathlib.Omega.{arith}
use lib.Dec.{leb}
use borrow.Author.Tests.{leb-true, ne_eqb}
use Rattle.typed.specs.Text.{in_token, is_digit}

pub digit_range : (b : ℕ) → is_digit b ≡ true → (48 ≤ b) × (b ≤ 57)
digit_range b e = go (leb 48 b) (leb b 57) refl refl e
  where
    go : (x y : Bool) → leb 48 b ≡ x → leb b 57 ≡ y → (x && y) ≡ true → (48 ≤ b) × (b ≤ 57)
    go true true p q e = (leb-true 48 b p, leb-true b 57 q)
    go true false p q e = absurd (false≢true e)
    go false y p q e = absurd (false≢true e)

pub digit_in_token : (b : ℕ) → is_digit b ≡ true → in_token b ≡ true
digit_in_token b e =
    let r = digit_range b e in
    rw (ne_eqb b 9 (λ q. omega arith), ne_eqb b 10 (λ q. omega arith), ne_eqb b 13 (λ q. omega arith), ne_eqb b 32 (λ q. omega arith))

pub minus_in_token : in_token 45 ≡ true
minus_in_token = refl
