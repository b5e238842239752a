-- What two arguments ask for: the second is `old`, or another (`old_asked`, `other_asked`), as slices are compared (`same_is`). Assumes
-- nothing.
use mathlib.Core.Path.{◌≡◌, refl, sym, ◌∙◌, ap}
use mathlib.Core.Bool.{Bool, true, false, ◌&&◌}
use mathlib.Core.List.{List, [], ◌∷◌}
use Prim.Native.Nat.{ℕ}
use lib.Dec.{eqb}
use lib.Pointwise.{pointwise}
use Rattle.std.specs.Prelude.{Some, None}
use Rattle.lists.specs.Bytes.{bytes}
use Rattle.wcnf.specs.Format.{same}
use Rattle.wcnf.specs.declared.Edition.TheVariants.{Before2022}
use Rattle.handing.specs.Contract.{chosen}

same_is : (l m : List ℕ) → same l m ≡ pointwise eqb l m
unfolding same
same_is [] [] = refl
same_is [] (b ∷ m) = refl
same_is (a ∷ l) [] = refl
same_is (a ∷ l) (b ∷ m) = ap (λ (x : Bool). eqb a b && x) (same_is l m)

module _ (count : ℕ) (word old : List ℕ) (b : Bool) (two : count ≡ 2) (is : old ≡ bytes "old") (e : b ≡ pointwise eqb word old) where
  told : b ≡ same word (bytes "old")
  told = e ∙ sym (same_is word old) ∙ ap (same word) is

  pub old_asked : b ≡ true → Some Before2022 ≡ chosen count word
  old_asked t = rw (two, ← told, t) refl

  pub other_asked : b ≡ false → None ≡ chosen count word
  other_asked t = rw (two, ← told, t) refl
