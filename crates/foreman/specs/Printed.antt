-- What `ties` prints: the list of the least plans, or the line of `leastplan` where there is none. 02, request 5.
--
-- In order: the lines of the plans; a list; the words of a sheet; a text that was read; the whole, from the text that was typed. The
-- lines are those of Rattle.printing.specs.Lines. Definitions only.
use Rattle.std.specs.Prelude.{List, [], ◌∷◌, ◌++◌, ℕ, length, ℤ}
use Rattle.lists.specs.Bytes.{bytes}
use Rattle.hall.specs.Hall.{Plan}
use Rattle.hall.specs.Reading.{refusal_numbers}
use Rattle.hall.specs.Listing.{Listing, listed, none, spent, refused, short, listing}
use Rattle.typed.specs.Text as text
use Rattle.typed.specs.Printing.{digits_of}
use Rattle.printing.specs.Lines.{line, hold_line, refused_line}

-- a line `hold` for each plan
unfoldable pub hold_lines : List Plan → List ℕ
hold_lines [] = []
hold_lines (p ∷ ps) = hold_line p ++ hold_lines ps

-- `least COST HELD OPENED`, `plans NUMBER`, and the lines of the plans, "best first"; else as `leastplan` prints it
abbrev pub printed_listing : Listing → List ℕ
printed_listing (listed cost held opened plans) =
    line (bytes "least") digits_of (cost ∷ held ∷ opened ∷ []) ++ (line (bytes "plans") digits_of (length plans ∷ []) ++ hold_lines plans)
printed_listing (none opened) = line (bytes "none") digits_of (opened ∷ [])
printed_listing (spent opened) = line (bytes "spent") digits_of (opened ∷ [])
printed_listing (refused fault place) = refused_line (refusal_numbers fault place)
printed_listing (short place) = refused_line (51 ∷ place ∷ [])

-- under the budget of `leastplan`, 1,000,000; the room has 51,200 bytes, for 256 plans of the 200 devices that a sheet may have
unfoldable pub printed_sheet : List ℤ → List ℕ
printed_sheet words = printed_listing (listing words 1000000 51200)

abbrev pub printed_reading : text.Read (List ℤ) → List ℕ
printed_reading (text.refused mistake place) = refused_line (text.mistake_code mistake ∷ place ∷ [])
printed_reading (text.got words) = printed_sheet words

-- fed like `leastplan`: with a room of 16,384 words
unfoldable pub printed_for : List ℕ → List ℕ
printed_for typed = printed_reading (text.read_text typed 16384)
