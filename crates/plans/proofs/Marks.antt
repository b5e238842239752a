-- Two plans side by side, by the order of slices: which comes first (`less_is`, `greater_is`), and whether they are the same, which is that
-- neither comes before the other (`same_is`). Assumes nothing.
use mathlib.Core.Path.{◌≡◌, ◌∙◌, refl}
use mathlib.Core.Bool.{Bool, not, ◌||◌}
use mathlib.Core.List.{[], ◌∷◌}
use native.Mathlib.Omega.{arith}
use Rattle.std.specs.Prelude.{nat_eq}
use Rattle.std.proofs.Common.{Ordering}
use Rattle.std.specs.Ordering.{nat_cmp, is_lt, is_gt}
use Rattle.std.specs.Cmp.Lexicographic.{pointwise, slice_cmp}
use Rattle.std.proofs.lemmas.Bool.Decides.{nat_tests}
use Rattle.std.proofs.lemmas.Cmp.{same_from_slice_cmp}
use Rattle.hall.specs.Hall.{Plan}
use Rattle.hall.specs.Order.{less}

pub less_is : (a b : Plan) (o : Ordering) (r : Bool) → o ≡ slice_cmp nat_cmp a b → r ≡ is_lt o → r ≡ less a b
unfolding less
less_is a b o r e f = f ∙ same_from_slice_cmp nat_cmp is_lt less refl (λ _ _. refl) (λ _ _. refl) (λ x y xs ys o h. grind (arith, nat_tests)) a b o e

pub greater_is : (a b : Plan) (o : Ordering) → o ≡ slice_cmp nat_cmp a b → is_gt o ≡ less b a
unfolding less
greater_is = same_from_slice_cmp nat_cmp is_gt (λ a b. less b a) refl (λ _ _. refl) (λ _ _. refl) (λ x y xs ys o h. grind (arith, nat_tests))

abbrev pub neither : Plan → Plan → Bool
neither a b = not (less a b || less b a)

pub same_is : (a b : Plan) → pointwise nat_eq b a ≡ neither a b
unfolding less
same_is [] [] = refl
same_is [] (y ∷ b) = refl
same_is (x ∷ a) [] = refl
same_is (x ∷ a) (y ∷ b) = let h = same_is a b in grind (arith, nat_tests)
