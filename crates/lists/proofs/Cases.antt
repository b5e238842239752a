-- Case by case: a test passes or fails; one number lies below, level with or above another.
--
-- In order: tests (`test`, `both`, `fails`) and their joins (`or_false`, `or_right`, `and_both`); numbers (`tri`). Not here: a
-- test's value from a fact about numbers, and back (`borrow.Author.Tests`). Assumes nothing.
use mathlib.Core.Path.{◌≡◌, refl, sym, ◌∙◌, ap}
use mathlib.Core.Logic.{◌⊎◌, inl, inr}
use mathlib.Core.Bool.{Bool, true, false, ◌&&◌, ◌||◌, true≢false, false≢true}
use Prim.Native.Nat.{ℕ, zero, suc, ◌<◌, zero-le, suc-le-suc}

pub test : (b : Bool) → (b ≡ true) ⊎ (b ≡ false)
test true = inl refl
test false = inr refl

-- no test does both
pub both : {A : Type 0} {b : Bool} → b ≡ true → b ≡ false → A
both h k = absurd (true≢false (sym h ∙ k))

-- a test that would give an absurdity if it passed fails
pub fails : {b : Bool} → (b ≡ true → ⊥) → b ≡ false
fails {b} f = go b f
  where
    go : (b : Bool) → (b ≡ true → ⊥) → b ≡ false
    go true f = absurd (f refl)
    go false f = refl

pub or_false : (a b : Bool) → (a || b) ≡ false → (a ≡ false) × (b ≡ false)
or_false true b h = absurd (true≢false h)
or_false false b h = (refl, h)

pub or_right : (a b : Bool) → b ≡ true → (a || b) ≡ true
or_right true b h = refl
or_right false b h = h

pub and_both : (a b : Bool) → (a && b) ≡ true → (a ≡ true) × (b ≡ true)
and_both true b h = (refl, h)
and_both false b h = absurd (false≢true h)

pub data Tri (x y : ℕ) : Type 0 where
  below : x < y → Tri x y
  level : x ≡ y → Tri x y
  above : y < x → Tri x y

pub tri : (x y : ℕ) → Tri x y
tri zero zero = level refl
tri zero (suc y) = below (suc-le-suc zero-le)
tri (suc x) zero = above (suc-le-suc zero-le)
tri (suc x) (suc y) = up (tri x y)
  where
    up : Tri x y → Tri (suc x) (suc y)
    up (below h) = below (suc-le-suc h)
    up (level h) = level (ap suc h)
    up (above h) = above (suc-le-suc h)
