-- The lines that programs print. 01, "What leastplan prints"; 02, request 1.
--
-- In order: items behind blanks; a line; the entries of a line; the line of the held devices; a refusal. The digits of a number are
-- those of Rattle.typed.specs.Printing, none of them a leading zero. Definitions only.
use Rattle.std.specs.Prelude.{List, [], ◌∷◌, ◌++◌, ℕ}
use Rattle.lists.specs.Bytes.{bytes}
use Rattle.hall.specs.Hall.{Entry}
use Rattle.hall.specs.Order.{held_entries}
use Rattle.hall.specs.Ranges.{words_of, entry_words}
use Rattle.typed.specs.Printing.{digits_of, printed_word}

-- "a blank and an entry for each": what is printed of each item, behind a blank
unfoldable pub spaced : {A : Type 0} → (A → List ℕ) → List A → List ℕ
spaced f [] = []
spaced f (a ∷ l) = bytes " " ++ (f a ++ spaced f l)

-- "each line closed by byte 10"
abbrev pub line_end : List ℕ
line_end = bytes "\n"

-- a word, its items, the end
abbrev pub line : {A : Type 0} → List ℕ → (A → List ℕ) → List A → List ℕ
line word f items = word ++ (spaced f items ++ line_end)

-- entries as a sheet has them, each behind a blank: "without a plus", a minus in front of one that is held at 0
abbrev pub printed_entries : List Entry → List ℕ
printed_entries entries = spaced printed_word (words_of entry_words entries)

-- "a line `hold` followed by a blank and an entry for each held device in rising order, without a plus (the word alone where
-- nothing is held)": the entries as a sheet has them, a minus in front of one that is held at 0
abbrev pub hold_line : List ℕ → List ℕ
hold_line plan = line (bytes "hold") printed_word (words_of entry_words (held_entries plan))

-- "`refused CODE PLACE`, for either table"; 02, request 1: "the rule's number .. which `leastplan` prints last"
abbrev pub refused_line : (numbers : List ℕ) → List ℕ
refused_line numbers = line (bytes "refused") digits_of numbers
