-- A sheet's number of devices, by its first word: there is none (`no_devices`), it is 0 or more (`devices_up`), or below 0
-- (`devices_down`). Assumes nothing.
use mathlib.Core.Path.{◌≡◌, refl, sym, ◌∙◌, ap}
use mathlib.Core.List.{List, [], ◌∷◌}
use Prim.Native.Nat.{ℕ, ◌+◌}
use native.Mathlib.Numerals.{add-one}
use native.Mathlib.Omega.{arith}
use lib.ListN.{length, get_or}
use lib.IntN.{ℤ, pos, negsuc}
use Rattle.hall.specs.Due.{devices_on}
use Rattle.refusals.specs.Word.{split_of}
use Rattle.refusals.specs.declared.Split.{Split}
use Rattle.refusals.specs.declared.Split.TheVariants.{Up, Down}

pub no_devices : (ws : List ℤ) → length ws ≡ 0 → 0 ≡ devices_on ws
no_devices [] e = refl
no_devices (w ∷ ws) e = absurd (omega arith)

-- the number that a split word says without its sign
abbrev size_by : Split → ℕ
size_by (Up n) = n
size_by (Down k) = k + 1

size_split : (ws : List ℤ) → (length ws ≡ 0 → ⊥) → size_by (split_of (get_or ws 0 (pos 0))) ≡ devices_on ws
size_split [] l = absurd (l refl)
size_split (pos n ∷ ws) l = refl
size_split (negsuc n ∷ ws) l = add-one n

-- the code splits what the machine reads back from the word's bits
module _ (ws : List ℤ) (there : length ws ≡ 0 → ⊥) (z : ℤ) (same : z ≡ get_or ws 0 (pos 0)) (r : Split) (split : r ≡ split_of z) where
  devices_by : (s : Split) → r ≡ s → size_by s ≡ devices_on ws
  devices_by s e = sym (ap size_by e) ∙ ap size_by (split ∙ ap split_of same) ∙ size_split ws there

  pub devices_up : (n : ℕ) → r ≡ Up n → n ≡ devices_on ws
  devices_up n e = devices_by (Up n) e

  pub devices_down : (k : ℕ) → r ≡ Down k → k + 1 ≡ devices_on ws
  devices_down k e = devices_by (Down k) e
