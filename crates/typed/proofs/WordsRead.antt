-- What a caller of `read` has: the words that were read lie within their room (`read_within`), and the definition gives those
-- that stand in front of it (`read_words`); or it gives the refusal that was told (`read_refused`). Assumes nothing.
use mathlib.Core.Path.{◌≡◌, sym, ◌∙◌, ap}
use mathlib.Core.List.{List}
use Prim.Native.Nat.{ℕ, ◌-◌, ◌≤◌}
use lib.ListN.{length, take}
use lib.IntN.{ℤ}
use Rattle.std.proofs.Common.{Result, Ok, Err}
use Rattle.refusals.specs.declared.Refused.{Refused}
use Rattle.lists.proofs.InFront.{front_within, front_taken}
use Rattle.typed.specs.Text.{Read, refused, got, read_text}
use Rattle.typed.specs.Answer.{reading_of, room_after, Reads}
use Rattle.typed.specs.declared.Mistake.{Mistake}
use Rattle.typed.proofs.Only.{reading_is}

module _ (text : List ℕ) (before : List ℤ) (r : Result ℕ (Refused Mistake)) (after : List ℤ) (reads : Reads text before r after) where
  pub read_within : (w : ℕ) → r ≡ Ok w → w ≤ length after
  read_within w e = go (read_text text (length before)) (sym e ∙ reading_is reads) reads.room
    where
      go : (x : Read (List ℤ)) → Ok w ≡ reading_of x → after ≡ room_after x before → w ≤ length after
      go (refused m place) a b = absurd (cc)
      go (got words) a b = front_within words before after w (cc) b

  pub read_words : (w : ℕ) → r ≡ Ok w → read_text text (length before) ≡ got (take (w - 0) after)
  read_words w e = go (read_text text (length before)) (sym e ∙ reading_is reads) reads.room
    where
      go : (x : Read (List ℤ)) → Ok w ≡ reading_of x → after ≡ room_after x before → x ≡ got (take (w - 0) after)
      go (refused m place) a b = absurd (cc)
      go (got words) a b = ap got (sym (front_taken words before after w (cc) b))

  pub read_refused : (e : Refused Mistake) → r ≡ Err e → read_text text (length before) ≡ refused e.kind e.place
  read_refused e h = go (read_text text (length before)) (sym h ∙ reading_is reads)
    where
      go : (x : Read (List ℤ)) → Err e ≡ reading_of x → x ≡ refused e.kind e.place
      go (refused n i) a = let z : record { kind = n; place = i } ≡ e = cc in ap (λ (e : Refused Mistake). refused e.kind e.place) z
      go (got words) a = absurd (cc)
