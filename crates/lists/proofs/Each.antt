-- Laws of `Each`: of a list after another (`each_append`), of the front of a list (`each_take`), of a repeated element (`each_replicate`),
-- from what holds of each element that stands in a list (`each_of`), from one property to another (`each_map`). Assumes nothing.
use mathlib.Core.List.{List, [], ◌∷◌, ◌++◌}
use Prim.Native.Nat.{ℕ, zero, suc}
use lib.ListN.{take, replicate}
use Rattle.lists.specs.Lists.{Each, In, first, later}

module _ {A : Type 0} (P : A → Type 0) where
  pub each_append : (l m : List A) → Each P l → Each P m → Each P (l ++ m)
  each_append [] m a b = b
  each_append (x ∷ l) m a b = (a.0, each_append l m a.1 b)

  pub each_take : (n : ℕ) (l : List A) → Each P l → Each P (take n l)
  each_take zero l a = tt
  each_take (suc n) [] a = tt
  each_take (suc n) (x ∷ l) a = (a.0, each_take n l a.1)

  pub each_replicate : (n : ℕ) (a : A) → P a → Each P (replicate n a)
  each_replicate zero a p = tt
  each_replicate (suc n) a p = (p, each_replicate n a p)

  pub each_of : (l : List A) → ((a : A) → In a l → P a) → Each P l
  each_of [] f = tt
  each_of (x ∷ l) f = (f x first, each_of l (λ a i. f a (later i)))

pub each_map : {A : Type 0} (P Q : A → Type 0) → ((a : A) → P a → Q a) → (l : List A) → Each P l → Each Q l
each_map P Q f [] h = tt
each_map P Q f (a ∷ l) h = (f a h.0, each_map P Q f l h.1)
