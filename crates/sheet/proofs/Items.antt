-- One word of a sheet.
--
-- In order: a word by its place: there is none (`no_word`), or it stands there (`the_word`); two readings of a word, both of which give a
-- value, or neither (`Alike`), as a reading and itself (`alike_same`). Assumes nothing.
use mathlib.Core.Path.{◌≡◌, refl}
use mathlib.Core.List.{List, [], ◌∷◌}
use mathlib.Core.Option.{Option, none, some}
use Prim.Native.Nat.{ℕ, zero, suc, ◌≤◌, ◌<◌}
use native.Mathlib.Omega.{arith}
use lib.ListN.{length, get_or, get_elem?}
use lib.IntN.{ℤ}

pub no_word : (ws : List ℤ) (i : ℕ) → length ws ≤ i → get_elem? ws i ≡ none
no_word [] i l = refl
no_word (x ∷ ws) zero l = absurd (omega arith)
no_word (x ∷ ws) (suc i) l = no_word ws i (omega arith)

pub the_word : (ws : List ℤ) (i : ℕ) (d : ℤ) → i < length ws → get_elem? ws i ≡ some (get_or ws i d)
the_word [] i d l = absurd (omega arith)
the_word (x ∷ ws) zero d l = refl
the_word (x ∷ ws) (suc i) d l = the_word ws i d (omega arith)

pub ruleset word_laws = (no_word, the_word)

abbrev pub Alike : {A : Type 0} → Option A → Option ℕ → Type 0
Alike none none = Unit {0}
Alike none (some c) = ⊥
Alike (some a) none = ⊥
Alike (some a) (some c) = Unit {0}

pub alike_same : (tell : ℤ → Option ℕ) (w : ℤ) → Alike (tell w) (tell w)
alike_same tell w = go (tell w)
  where
    go : (x : Option ℕ) → Alike x x
    go none = tt
    go (some n) = tt
