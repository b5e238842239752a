-- The contract of `answer_file`, from those of the reader of files and of `searched`.
--
-- In order: the words that were read lie within their room (`file_within`); a file that was refused, and one whose sheet was searched
-- (`replies_file_refused`, `replies_file_words`). Assumes nothing.
use mathlib.Core.Path.{◌≡◌, sym, ◌∙◌, ap}
use mathlib.Core.List.{List}
use Prim.Native.Nat.{ℕ, ◌-◌, ◌≤◌}
use lib.ListN.{length, take}
use lib.IntN.{ℤ}
use Rattle.std.specs.Prelude.{Result, Ok, Err}
use Rattle.refusals.specs.declared.Refused.{Refused}
use Rattle.lists.proofs.InFront.{front_within, front_taken}
use Rattle.hall.specs.Ranges.{words}
use Rattle.dimacs.specs.File.{flaw_numbers, Parsed, refused, file, read_file}
use Rattle.dimacs.specs.Contract.{filed_of, room_after, Files}
use Rattle.dimacs.specs.declared.Flaw.{Flaw}
use Rattle.dimacs.proofs.Only.{numbers_injective}
use Rattle.printing.specs.Lines.{refused_line}
use Rattle.printing.specs.Contract.{InRoom}
use Rattle.printing.proofs.InRoom.{in_room_as}
use Rattle.reply.specs.Printed.{printed_search, printed_file, printed_for_file}
use Rattle.reply.specs.Contract.{Searched, RepliesFile}

-- what was read, by the reader's contract
module _ (text : List ℕ) (before : List ℤ) (r : Result ℕ (Refused Flaw)) (after : List ℤ) (files : Files text before r after) where
  told : r ≡ filed_of (read_file text (length before))
  told = numbers_injective r (filed_of (read_file text (length before))) files.says

  pub file_within : (w : ℕ) → r ≡ Ok w → w ≤ length after
  file_within w e = go (read_file text (length before)) (sym e ∙ told) files.room
    where
      go : (x : Parsed) → Ok w ≡ filed_of x → after ≡ room_after x before → w ≤ length after
      go (refused f place) a b = absurd (cc)
      go (file h) a b = front_within (words h) before after w (cc) b

  -- so the lines are those of the words in front of the room, or of the refusal
  lines_of_words : (w : ℕ) → r ≡ Ok w → printed_search (take (w - 0) after) ≡ printed_file (read_file text (length before))
  lines_of_words w e = go (read_file text (length before)) (sym e ∙ told) files.room
    where
      go : (x : Parsed) → Ok w ≡ filed_of x → after ≡ room_after x before → printed_search (take (w - 0) after) ≡ printed_file x
      go (refused f place) a b = absurd (cc)
      go (file h) a b = ap printed_search (front_taken (words h) before after w (cc) b)

  lines_of_refusal : (f : Refused Flaw) → r ≡ Err f → refused_line (flaw_numbers f.kind f.place) ≡ printed_file (read_file text (length before))
  lines_of_refusal f e = go (read_file text (length before)) (sym e ∙ told)
    where
      go : (x : Parsed) → Err f ≡ filed_of x → refused_line (flaw_numbers f.kind f.place) ≡ printed_file x
      go (refused g i) a = let z : f ≡ record { kind = g; place = i } = cc in ap (λ (e : Refused Flaw). refused_line (flaw_numbers e.kind e.place)) z
      go (file h) a = absurd (cc)

module _ (text : List ℕ) (words₀ : List ℤ) (large : length words₀ ≡ 16384) (filed : Result ℕ (Refused Flaw)) (words' : List ℤ) (files : Files text words₀ filed words')
    (before : List ℕ) (r : ℕ) (after : List ℕ) where
  -- lines in front of the room that are those of the reading
  replies : (lines : List ℕ) → lines ≡ printed_file (read_file text (length words₀)) → InRoom 1024 lines before r after → RepliesFile text before r after
  unfolding printed_for_file
  replies lines e h = in_room_as 1024 lines before r after (printed_for_file text) (e ∙ ap (λ (n : ℕ). printed_file (read_file text n)) large) h

  pub replies_file_words : (w : ℕ) → filed ≡ Ok w → Searched (take (w - 0) words') before r after → RepliesFile text before r after
  replies_file_words w e h = replies (printed_search (take (w - 0) words')) (lines_of_words text words₀ filed words' files w e) h

  pub replies_file_refused : (f : Refused Flaw) → filed ≡ Err f → InRoom 1024 (refused_line (flaw_numbers f.kind f.place)) before r after
      → RepliesFile text before r after
  replies_file_refused f e h = replies (refused_line (flaw_numbers f.kind f.place)) (lines_of_refusal text words₀ filed words' files f e) h
