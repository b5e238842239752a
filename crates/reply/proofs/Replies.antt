-- The contract of `answer`, from those of the reader and of `searched`: a text that was refused (`replies_refused`), and one whose sheet
-- was searched (`replies_words`). Assumes nothing.
use mathlib.Core.Path.{◌≡◌, sym, ◌∙◌, ap}
use mathlib.Core.List.{List, [], ◌∷◌}
use Prim.Native.Nat.{ℕ, ◌-◌}
use lib.ListN.{length, take}
use lib.IntN.{ℤ}
use Rattle.std.specs.Prelude.{Result, Ok, Err}
use Rattle.refusals.specs.declared.Refused.{Refused}
use Rattle.typed.specs.Text as text
use Rattle.typed.specs.Text.{read_text}
use Rattle.typed.specs.Answer.{Reads}
use Rattle.typed.specs.declared.Mistake.{Mistake}
use Rattle.typed.proofs.WordsRead.{read_words, read_refused}
use Rattle.printing.specs.Lines.{refused_line}
use Rattle.printing.specs.Contract.{InRoom}
use Rattle.printing.proofs.InRoom.{in_room_as}
use Rattle.reply.specs.Printed.{printed_reading, printed_for}
use Rattle.reply.specs.Contract.{Searched, Replies}

module _ (typed : List ℕ) (words : List ℤ) (large : length words ≡ 16384) (reading : Result ℕ (Refused Mistake)) (words' : List ℤ) (reads : Reads typed words reading words')
    (before : List ℕ) (r : ℕ) (after : List ℕ) where
  -- lines in front of the room that are those of the reading
  replies : (x : text.Read (List ℤ)) → read_text typed (length words) ≡ x → InRoom 1024 (printed_reading x) before r after → Replies typed before r after
  unfolding printed_for
  replies x e h =
      in_room_as 1024 (printed_reading x) before r after (printed_for typed) (ap printed_reading (sym e) ∙ ap (λ (n : ℕ). printed_reading (read_text typed n)) large) h

  pub replies_words : (w : ℕ) → reading ≡ Ok w → Searched (take (w - 0) words') before r after → Replies typed before r after
  replies_words w e h = replies (text.got (take (w - 0) words')) (read_words typed words reading words' reads w e) h

  pub replies_refused : (e : Refused Mistake) → reading ≡ Err e → InRoom 1024 (refused_line (text.mistake_code e.kind ∷ e.place ∷ [])) before r after
      → Replies typed before r after
  replies_refused e same h = replies (text.refused e.kind e.place) (read_refused typed words reading words' reads e same) h
