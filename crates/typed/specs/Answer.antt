-- The answer of the reader, this paper's numbers for it, the room afterwards, and the contract of `read`. 01, "Sheets typed as text".
--
-- In order: the answer that a reading has; its numbers; the room; what an answer is given for, apart from the reader; the contract.
-- Definitions only.
use Rattle.std.specs.Prelude.{◌≡◌, List, [], ◌∷◌, ℕ, length, take, ℤ, Result, Ok, Err}
use Rattle.lists.specs.Lists.{in_front}
use Rattle.refusals.specs.declared.Refused.{Refused}
use Rattle.typed.specs.Text.{mistake_code, Read, refused, got, read_text}
use Rattle.typed.specs.Allowed.{Accepted}
use Rattle.typed.specs.Reasons.{Reason}
use Rattle.typed.specs.declared.Mistake.{Mistake}

-- "on success it returns w"; a refusal has its kind and its place
abbrev pub reading_of : Read (List ℤ) → Result ℕ (Refused Mistake)
reading_of (refused m place) = Err (record { kind = m; place = place })
reading_of (got words) = Ok (length words)

-- "a definition that gives this paper's number and values for each of its cases": 0 and w, or the code and the place
abbrev pub numbers_of : Result ℕ (Refused Mistake) → List ℕ
numbers_of (Ok w) = 0 ∷ w ∷ []
numbers_of (Err e) = mistake_code e.kind ∷ e.place ∷ []

-- "the first w words are the tokens' values, the rest is unchanged; on refusal all of it is unchanged"
abbrev pub room_after : Read (List ℤ) → List ℤ → List ℤ
room_after (refused m place) room = room
room_after (got words) room = in_front words room

-- what an answer is given for: the text is allowed tokens and separators and fits, and its words stand in front of the room (Allowed);
-- or it is refused, for its reason (Reasons)
abbrev pub Justified : List ℕ → (room : ℕ) → Result ℕ (Refused Mistake) → (after : List ℤ) → Type 0
Justified text room (Ok w) after = Accepted text room (take w after)
Justified text room (Err e) after = Reason e.kind e.place text room

-- the contract of `read`: the text, the room before, the answer and the room afterwards. Each answer is given exactly where it is
-- justified (proofs/Only)
pub record Reads (text : List ℕ) (before : List ℤ) (reading : Result ℕ (Refused Mistake)) (after : List ℤ) : Type 0 where
  pub says : numbers_of reading ≡ numbers_of (reading_of (read_text text (length before)))
  pub room : after ≡ room_after (read_text text (length before)) before
  pub reason : Justified text (length before) reading after
