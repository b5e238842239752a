-- Texts with known answers. 01, "Sheets typed as text": its own example, and a row for each border of its two tables.
--
-- In order: what a row says and what the definitions say for it; texts that are accepted; 21; 22; 24 and the order of the three;
-- words and how they are printed. A text of more than 60,000 bytes is no row: 23 is a theorem (proofs/Verdicts). Definitions only;
-- that the rows are right is proofs/AnswerTable.
use Rattle.std.specs.Prelude.{List, [], ◌∷◌, ℕ, length, replicate, ℤ}
use Prim.Native.String.{String}
use Rattle.lists.specs.Bytes.{bytes}
use Rattle.lists.specs.Words.{+, -}
use Rattle.typed.specs.Text.{read_text}
use Rattle.typed.specs.Answer.{reading_of, numbers_of, room_after}

-- the paper's numbers for the answer, and the room afterwards
pub record Effect : Type 0 where
  pub told : List ℕ
  pub room : List ℤ

pub record Row : Type 0 where
  pub text : List ℕ
  pub before : List ℤ
  pub expected : Effect

-- what the definitions say for a row
unfoldable pub effect : Row → Effect
effect r = record {
  told = numbers_of (reading_of (read_text r.text (length r.before)));
  room = room_after (read_text r.text (length r.before)) r.before;
}

-- a text, a room of so many words that are all 99, the numbers told, and the room afterwards
abbrev pub row : String → ℕ → List ℕ → List ℤ → Row
row text room told after = record { text = bytes text; before = replicate room (+ 99); expected = record { told = told; room = after } }

-- accepted: 0 and w, and the tokens' values in front of the room
unfoldable pub accepted_texts : List Row
accepted_texts =
    -- 01's four-device text
    row "4 5 2 4 3\n3\n2 1 2\n2 -2 3\n2 -1 4\n" 16 (0 ∷ 15 ∷ [])
    (+ 4 ∷ + 5 ∷ + 2 ∷ + 4 ∷ + 3 ∷ + 3 ∷ + 2 ∷ + 1 ∷ + 2 ∷ + 2 ∷ - 2 ∷ + 3 ∷ + 2 ∷ - 1 ∷ + 4 ∷ + 99 ∷ [])
    -- an empty text; blanks only
    ∷ row "" 2 (0 ∷ 0 ∷ []) (+ 99 ∷ + 99 ∷ [])
    ∷ row "   " 2 (0 ∷ 0 ∷ []) (+ 99 ∷ + 99 ∷ [])
    -- bytes 9, 13 and 10 between tokens and at both ends
    ∷ row "\t\r1\r\n2\t\r" 3 (0 ∷ 2 ∷ []) (+ 1 ∷ + 2 ∷ + 99 ∷ [])
    -- a minus before 0; leading zeros
    ∷ row "-0" 2 (0 ∷ 1 ∷ []) (+ 0 ∷ + 99 ∷ [])
    ∷ row "007" 2 (0 ∷ 1 ∷ []) (+ 7 ∷ + 99 ∷ [])
    -- ten digits, with leading zeros; the same behind a minus
    ∷ row "0000000012" 1 (0 ∷ 1 ∷ []) (+ 12 ∷ [])
    ∷ row "-0000000012" 1 (0 ∷ 1 ∷ []) (- 12 ∷ [])
    -- the largest and the least value
    ∷ row "2147483647" 1 (0 ∷ 1 ∷ []) (+ 2147483647 ∷ [])
    ∷ row "-2147483648" 1 (0 ∷ 1 ∷ []) (- 2147483648 ∷ [])
    -- a room of exactly w words
    ∷ row "1 -2" 2 (0 ∷ 2 ∷ []) (+ 1 ∷ - 2 ∷ [])
    ∷ []

-- 21: "wrong byte in a token, or a minus with no digit after it"
unfoldable pub wrong_bytes : List Row
wrong_bytes =
    -- a minus with no digit: at the end, before a blank, before a minus
    row "-" 1 (21 ∷ 1 ∷ []) (+ 99 ∷ [])
    ∷ row "- 1" 1 (21 ∷ 1 ∷ []) (+ 99 ∷ [])
    ∷ row "--1" 1 (21 ∷ 1 ∷ []) (+ 99 ∷ [])
    -- a minus behind a digit
    ∷ row "1-" 1 (21 ∷ 1 ∷ []) (+ 99 ∷ [])
    ∷ row "5-" 1 (21 ∷ 1 ∷ []) (+ 99 ∷ [])
    ∷ row "1-1" 1 (21 ∷ 1 ∷ []) (+ 99 ∷ [])
    -- a plus
    ∷ row "+5" 1 (21 ∷ 0 ∷ []) (+ 99 ∷ [])
    ∷ row "1+" 1 (21 ∷ 1 ∷ []) (+ 99 ∷ [])
    -- the bytes 47 and 58, next to the digits
    ∷ row "/" 1 (21 ∷ 0 ∷ []) (+ 99 ∷ [])
    ∷ row "1:" 1 (21 ∷ 1 ∷ []) (+ 99 ∷ [])
    -- the bytes 0, 11, 12, 128 and 255, the last as the character of that code
    ∷ row "1\0" 1 (21 ∷ 1 ∷ []) (+ 99 ∷ [])
    ∷ row "\u{b}" 1 (21 ∷ 0 ∷ []) (+ 99 ∷ [])
    ∷ row "1\u{c}2" 2 (21 ∷ 1 ∷ []) (+ 99 ∷ + 99 ∷ [])
    ∷ row "\u{80}" 1 (21 ∷ 0 ∷ []) (+ 99 ∷ [])
    ∷ row "ÿ" 1 (21 ∷ 0 ∷ []) (+ 99 ∷ [])
    -- a good token before it: the room is unchanged
    ∷ row "1 -2 -" 3 (21 ∷ 6 ∷ []) (+ 99 ∷ + 99 ∷ + 99 ∷ [])
    ∷ []

-- 22: "more than 10 digits, or a value outside -2,147,483,648 to 2,147,483,647"
unfoldable pub bad_numbers : List Row
bad_numbers =
    -- eleven digits; the same behind a blank and a minus
    row "00000000001" 1 (22 ∷ 0 ∷ []) (+ 99 ∷ [])
    ∷ row " -00000000001" 1 (22 ∷ 1 ∷ []) (+ 99 ∷ [])
    -- one above and one below what is allowed; the largest of ten digits
    ∷ row "2147483648" 1 (22 ∷ 0 ∷ []) (+ 99 ∷ [])
    ∷ row "-2147483649" 1 (22 ∷ 0 ∷ []) (+ 99 ∷ [])
    ∷ row "9999999999" 1 (22 ∷ 0 ∷ []) (+ 99 ∷ [])
    -- a good token before it
    ∷ row "7 2147483648" 2 (22 ∷ 2 ∷ []) (+ 99 ∷ + 99 ∷ [])
    ∷ []

-- 24: "more tokens than the room holds"; "for each token 21 over its whole length, then 22, then 24"
unfoldable pub rooms : List Row
rooms =
    -- a room of 0 words: nothing to hold; one token
    row "" 0 (0 ∷ 0 ∷ []) []
    ∷ row "1" 0 (24 ∷ 0 ∷ []) []
    -- a room of w - 1 words
    ∷ row "1 2" 1 (24 ∷ 2 ∷ []) (+ 99 ∷ [])
    -- a bad token behind a full room: 21 and 22 come first at the same token, 24 at an earlier one
    ∷ row "1 2x" 1 (21 ∷ 3 ∷ []) (+ 99 ∷ [])
    ∷ row "1 2147483648" 1 (22 ∷ 2 ∷ []) (+ 99 ∷ [])
    ∷ row "1 2 x" 1 (24 ∷ 2 ∷ []) (+ 99 ∷ [])
    -- with a room of 0 words
    ∷ row "12345678901x" 0 (21 ∷ 11 ∷ []) []
    ∷ row "12345678901" 0 (22 ∷ 0 ∷ []) []
    ∷ []

-- words, and how they are printed
unfoldable pub samples : List (List ℤ)
samples = [] ∷ (+ 0 ∷ []) ∷ (- 1 ∷ + 10 ∷ []) ∷ (+ 7 ∷ - 365 ∷ + 99 ∷ []) ∷ []

unfoldable pub printings : List (List ℕ)
printings = bytes "" ∷ bytes "0" ∷ bytes "-1 10" ∷ bytes "7 -365 99" ∷ []
