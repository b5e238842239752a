-- The longest run of bytes at the front of a list that pass a test.
--
-- In order: its length and its bytes (`front_length`, `take_front`, `front_splits`, `front_each`), and what stands behind it
-- (`Fails`, `front_fails`); a run that passes the test and ends is the longest (`each_front`); the library counts the same bytes
-- (`front_counted`). Assumes nothing.
use mathlib.Core.Path.{◌≡◌, refl, sym, ◌∙◌, ap}
use mathlib.Core.Bool.{Bool, true, false, cond}
use mathlib.Core.List.{List, [], ◌∷◌, ◌++◌}
use Prim.Native.Nat.{ℕ, suc, ◌+◌, ◌≤◌}
use native.Mathlib.Omega.{arith}
use lib.ListN.{length, take, drop, take-append-drop}
use Rattle.std.specs.List.{prefix_len}
use Rattle.typed.specs.Text.{front}
use Rattle.typed.specs.Allowed.{Passing}

-- behind a run the list ends, or a byte stands that fails the test
abbrev pub Fails : (ℕ → Bool) → List ℕ → Type 0
Fails test [] = Unit {0}
Fails test (b ∷ bs) = test b ≡ false

module _ (test : ℕ → Bool) where
  pub front_length : (l : List ℕ) → length (front test l) ≤ length l
  unfolding front
  front_length [] = omega arith
  front_length (b ∷ bs) = go (test b) (front_length bs)
    where
      go : (t : Bool) → length (front test bs) ≤ length bs → length (cond t (b ∷ front test bs) []) ≤ suc (length bs)
      go true h = omega arith
      go false h = omega arith

  pub take_front : (l : List ℕ) → take (length (front test l)) l ≡ front test l
  unfolding front
  take_front [] = refl
  take_front (b ∷ bs) = go (test b) (take_front bs)
    where
      go : (t : Bool) → take (length (front test bs)) bs ≡ front test bs
          → take (length (cond t (b ∷ front test bs) [])) (b ∷ bs) ≡ cond t (b ∷ front test bs) []
      go true ih = ap (λ (l : List ℕ). b ∷ l) ih
      go false ih = refl

  pub front_splits : (l : List ℕ) → l ≡ front test l ++ drop (length (front test l)) l
  front_splits l =
      sym (take-append-drop (length (front test l)) l)
      ∙ ap (λ (x : List ℕ). x ++ drop (length (front test l)) l) (take_front l)

  pub front_each : (l : List ℕ) → Passing test (front test l)
  unfolding front
  front_each [] = tt
  front_each (b ∷ bs) = go (test b) refl (front_each bs)
    where
      go : (t : Bool) → test b ≡ t → Passing test (front test bs) → Passing test (cond t (b ∷ front test bs) [])
      go true e ih = (e, ih)
      go false e ih = tt

  pub front_fails : (l : List ℕ) → Fails test (drop (length (front test l)) l)
  unfolding front
  front_fails [] = tt
  front_fails (b ∷ bs) = go (test b) refl (front_fails bs)
    where
      go : (t : Bool) → test b ≡ t → Fails test (drop (length (front test bs)) bs)
          → Fails test (drop (length (cond t (b ∷ front test bs) [])) (b ∷ bs))
      go true e ih = ih
      go false e ih = e

  pub each_front : (l after : List ℕ) → Passing test l → Fails test after → front test (l ++ after) ≡ l
  unfolding front
  each_front [] [] e f = refl
  each_front [] (b ∷ bs) e f = rw f
  each_front (b ∷ l) after e f = rw e.0 (ap (λ (l : List ℕ). b ∷ l) (each_front l after e.1 f))

  -- as many as the library's count of them
  pub front_counted : (l : List ℕ) → length (front test l) ≡ prefix_len test l
  unfolding front
  front_counted [] = refl
  front_counted (b ∷ bs) = go (test b) (front_counted bs)
    where
      go : (t : Bool) → length (front test bs) ≡ prefix_len test bs → length (cond t (b ∷ front test bs) []) ≡ cond t (1 + prefix_len test bs) 0
      go true e = omega arith
      go false e = refl
