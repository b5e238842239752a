-- What `leastplan` and `cnfplan` print. 01, "What leastplan prints"; 02, requests 1 to 3.
--
-- In order: an answer; the words of a sheet; a text that was read; the whole, from the text that was typed; a file that was read; the
-- whole, from the file. The lines are those of Rattle.printing.specs.Lines. Definitions only.
use Rattle.std.specs.Prelude.{List, [], ◌∷◌, ◌++◌, ℕ, ℤ}
use Rattle.lists.specs.Bytes.{bytes}
use Rattle.hall.specs.Ranges.{words}
use Rattle.hall.specs.Reading as sheet
use Rattle.hall.specs.Answer.{Answer, least, none, spent, refused, answer}
use Rattle.typed.specs.Text as text
use Rattle.typed.specs.Printing.{digits_of}
use Rattle.dimacs.specs.File as cnf
use Rattle.printing.specs.Lines.{line, hold_line, refused_line}

-- "`least COST HELD OPENED`, then a line `hold`"; "`none OPENED`, or `spent 1000000`"
abbrev pub printed_answer : Answer → List ℕ
printed_answer (least cost held opened plan) = line (bytes "least") digits_of (cost ∷ held ∷ opened ∷ []) ++ hold_line plan
printed_answer (none opened) = line (bytes "none") digits_of (opened ∷ [])
printed_answer (spent opened) = line (bytes "spent") digits_of (opened ∷ [])
printed_answer (refused fault place) = refused_line (sheet.refusal_numbers fault place)

-- "uses .. a budget of 1,000,000"; the plan room has 200 bytes, a mark for each device that a sheet may have
abbrev pub printed_search : List ℤ → List ℕ
printed_search words = printed_answer (answer words 1000000 200)

abbrev pub printed_reading : text.Read (List ℤ) → List ℕ
printed_reading (text.refused mistake place) = refused_line (text.mistake_code mistake ∷ place ∷ [])
printed_reading (text.got words) = printed_search words

-- "uses a room of 16,384 words": what is printed for a text
unfoldable pub printed_for : List ℕ → List ℕ
printed_for typed = printed_reading (text.read_text typed 16384)

-- 02, request 2: a DIMACS file is answered as the sheet that is read from it, or by its refusal
abbrev pub printed_file : cnf.Parsed → List ℕ
printed_file (cnf.refused flaw place) = refused_line (cnf.flaw_numbers flaw place)
printed_file (cnf.file hall) = printed_search (words hall)

-- what is printed for a file, with the same room of 16,384 words
unfoldable pub printed_for_file : List ℕ → List ℕ
printed_for_file text = printed_file (cnf.read_file text 16384)
