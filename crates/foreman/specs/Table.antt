-- Texts with known output. 02, request 5; the first is 01's own example. Definitions only; that the rows are right is
-- proofs/AnswerTable.
use Rattle.std.specs.Prelude.{List, [], ◌∷◌, ℕ}
use Prim.Native.String.{String}
use Rattle.lists.specs.Bytes.{bytes}
use Rattle.foreman.specs.Printed.{printed_for}

pub record Row : Type 0 where
  pub text : List ℕ
  pub printed : List ℕ

abbrev pub row : String → String → Row
row text printed = record { text = bytes text; printed = bytes printed }

-- what the definitions print for a row
abbrev pub output : Row → List ℕ
output r = printed_for r.text

unfoldable pub rows : List Row
rows =
    -- 01's own example: no other plan ties
    row "4 5 2 4 3\n3\n2 1 2\n2 -2 3\n2 -1 4\n" "least 9 3 10\nplans 1\nhold 2 3 4\n"
    -- of no device: one plan, `hold` alone
    ∷ row "0 0" "least 0 0 1\nplans 1\nhold\n"
    -- nothing to hold
    ∷ row "2 3 3 0" "least 0 0 1\nplans 1\nhold\n"
    -- two plans: device 2 alone, then device 1 alone
    ∷ row "2 3 3 1 2 2 1" "least 3 1 3\nplans 2\nhold 2\nhold 1\n"
    -- the same devices in other positions, the worse plan opened first
    ∷ row "2 1 1 2 2 -2 1 2 2 -1" "least 2 2 5\nplans 2\nhold 1 2\nhold -1 -2\n"
    -- three plans of three devices, two of them opened twice
    ∷ row "3 1 1 1 3 2 1 2 2 2 3 2 1 3" "least 2 2 7\nplans 3\nhold 2 3\nhold 1 3\nhold 1 2\n"
    -- a rule that no plan meets
    ∷ row "0 1 0" "none 1\n"
    -- a sheet that is refused: no words; too many devices; a device count below 0; a word behind the last rule
    ∷ row "" "refused 11 0\n"
    ∷ row "201" "refused 12 0\n"
    ∷ row "-1" "refused 12 0\n"
    ∷ row "1 5 0 7" "refused 15 3\n"
    -- a width, with its rule
    ∷ row "1 5 1 33" "refused 19 3 1\n"
    ∷ row "1 5 2 0 -1" "refused 19 4 2\n"
    -- a text that is refused: a wrong byte; a number outside the words
    ∷ row "0 x" "refused 21 2\n"
    ∷ row "0 2147483648" "refused 22 2\n"
    ∷ []

-- the line for more than 256 plans, whatever the sheet
abbrev pub too_many : List ℕ
too_many = bytes "refused 51 51200\n"
