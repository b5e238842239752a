-- The contract of `read`: this paper's numbers for each case, and the room afterwards. 02, request 2.
--
-- In order: the answer that a reading has, and its numbers; the room; what an answer is given for, apart from the reader; the contract
-- of `read`. The numbers of a flaw are `flaw_numbers` (File). Definitions only.
use Rattle.std.specs.Prelude.{◌≡◌, List, [], ◌∷◌, ℕ, ◌≤◌, length, take, ℤ, Result, Ok, Err}
use Rattle.lists.specs.Lists.{in_front}
use Rattle.hall.specs.Hall.{Hall}
use Rattle.hall.specs.Ranges.{words, SheetOf}
use Rattle.refusals.specs.declared.Refused.{Refused}
use Rattle.dimacs.specs.declared.Flaw.{Flaw}
use Rattle.dimacs.specs.File.{flaw_numbers, Parsed, refused, file, read_file}
use Rattle.dimacs.specs.Standing.{Accepted}
use Rattle.dimacs.specs.Reasons.{Reason}

-- "returns its length"; a refusal has its kind and its place
abbrev pub filed_of : Parsed → Result ℕ (Refused Flaw)
filed_of (refused f place) = Err (record { kind = f; place = place })
filed_of (file h) = Ok (length (words h))

-- 0 and the length of the sheet, or the numbers of the refusal
abbrev pub numbers_of : Result ℕ (Refused Flaw) → List ℕ
numbers_of (Ok w) = 0 ∷ w ∷ []
numbers_of (Err e) = flaw_numbers e.kind e.place

-- "writes a hall sheet into a lent room of words ..; the rest, and all on a refusal, is unchanged"
abbrev pub room_after : Parsed → List ℤ → List ℤ
room_after (refused f place) room = room
room_after (file h) room = in_front (words h) room

-- "a hall sheet .., which the search must accept, with exactly the file's clauses": the first w words are the sheet of the file's hall, for
-- any plan room that has a byte for each device
pub record SheetRead (text : List ℕ) (room w : ℕ) (after : List ℤ) : Type 0 where
  pub hall : Hall
  pub accepted : Accepted text room hall
  pub sheet : (plan : ℕ) → length hall.costs ≤ plan → SheetOf hall (take w after) plan

-- what an answer is given for
abbrev pub Justified : List ℕ → (room : ℕ) → Result ℕ (Refused Flaw) → (after : List ℤ) → Type 0
Justified text room (Ok w) after = SheetRead text room w after
Justified text room (Err e) after = Reason e.kind e.place text room

-- the contract of `read`: the text, the room before, the answer and the room afterwards. Each answer is given exactly where it is
-- justified (proofs/Only)
pub record Files (text : List ℕ) (before : List ℤ) (r : Result ℕ (Refused Flaw)) (after : List ℤ) : Type 0 where
  pub says : numbers_of r ≡ numbers_of (filed_of (read_file text (length before)))
  pub room : after ≡ room_after (read_file text (length before)) before
  pub reason : Justified text (length before) r after
