-- Laws of `In`: nothing stands in the empty list (`in_none`); what stands in a list is its first element or stands in the rest
-- (`in_cons`); of a list after another (`in_front_lem`, `in_behind`, `in_either`), and of one element after a list (`in_last`). Assumes
-- nothing.
use mathlib.Core.Path.{◌≡◌, refl}
use mathlib.Core.Logic.{◌⊎◌, inl, inr, ⊎_elim, ⊎_map}
use mathlib.Core.List.{List, [], ◌∷◌, ◌++◌}
use Rattle.lists.specs.Lists.{In, first, later}

module _ {A : Type 0} {a : A} where
  pub in_none : {B : Type 0} → In a [] → B
  in_none = elim [ ]

  pub in_cons : {b : A} {l : List A} → In a (b ∷ l) → (a ≡ b) ⊎ In a l
  in_cons first = inl refl
  in_cons (later i) = inr i

  pub in_front_lem : {l : List A} (m : List A) → In a l → In a (l ++ m)
  in_front_lem m first = first
  in_front_lem m (later i) = later (in_front_lem m i)

  pub in_behind : (l : List A) {m : List A} → In a m → In a (l ++ m)
  in_behind [] i = i
  in_behind (b ∷ l) i = later (in_behind l i)

  pub in_either : (l : List A) {m : List A} → In a (l ++ m) → In a l ⊎ In a m
  in_either [] i = inr i
  in_either (b ∷ l) first = inl first
  in_either (b ∷ l) (later i) = ⊎_map later (λ j. j) (in_either l i)

  pub in_last : {b : A} (l : List A) → In a (l ++ (b ∷ [])) → In a l ⊎ (a ≡ b)
  in_last l i = ⊎_map (λ j. j) (λ j. ⊎_elim (λ e. e) in_none (in_cons j)) (in_either l i)
