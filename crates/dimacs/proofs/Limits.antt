-- The limits of a file: 60,000 bytes, and as many words as the room and a sheet have.
--
-- In order: a text that is not too long is read token by token (`short_enough`), one that is too long is not (`over_long`); so many words
-- are within the limit, or over it (`limit_holds`, `limit_over`). Assumes nothing.
use mathlib.Core.Path.{◌≡◌, refl}
use mathlib.Core.Logic.{◌⊎◌, inl, inr, ◌↔◌}
use mathlib.Core.Bool.{Bool, true, false, cond}
use mathlib.Core.List.{List}
use Prim.Native.Nat.{ℕ, ◌≤◌, ◌<◌}
use native.Mathlib.Omega.{arith}
use lib.ListN.{length}
use lib.Dec.{ltb}
use borrow.Author.Tests.{ltb-true, ltb-false, lt-ltb, le-ltb}
use Rattle.typed.specs.declared.Mistake.TheVariants.{TooLong}
use Rattle.dimacs.specs.declared.Flaw.TheVariants.{Text}
use Rattle.dimacs.specs.File.{refused, limit_of, read_file}
use Rattle.dimacs.specs.Steps.{headed}

-- ── bytes ──
module _ (text : List ℕ) (room : ℕ) where
  pub short_enough : length text ≤ 60000 → read_file text room ≡ headed text (limit_of room)
  unfolding read_file
  short_enough h = rw (le-ltb 60000 (length text) h)

  pub over_long : 60000 < length text → read_file text room ≡ refused (Text TooLong) 60000
  unfolding read_file
  over_long h = rw (lt-ltb 60000 (length text) h)

-- ── words ──
module _ (room k : ℕ) where
  pub limit_holds : (k ≤ limit_of room) ↔ ((k ≤ room) × (k ≤ 16384))
  limit_holds = go (ltb room 16384) refl
    where
      go : (t : Bool) → ltb room 16384 ≡ t → (k ≤ cond t room 16384) ↔ ((k ≤ room) × (k ≤ 16384))
      go true e = let l = ltb-true room 16384 e in (λ h. (h, omega arith), λ h. h.0)
      go false e = let l = ltb-false room 16384 e in (λ h. (omega arith, h), λ h. h.1)

  pub limit_over : (limit_of room < k) ↔ ((room < k) ⊎ (16384 < k))
  limit_over = go (ltb room 16384) refl
    where
      go : (t : Bool) → ltb room 16384 ≡ t → (cond t room 16384 < k) ↔ ((room < k) ⊎ (16384 < k))
      go true e = (λ h. inl h, λ over. back over)
        where
          back : (room < k) ⊎ (16384 < k) → room < k
          back (inl h) = h
          back (inr h) = let l = ltb-true room 16384 e in omega arith
      go false e = (λ h. inr h, λ over. back over)
        where
          back : (room < k) ⊎ (16384 < k) → 16384 < k
          back (inl h) = let l = ltb-false room 16384 e in omega arith
          back (inr h) = h
