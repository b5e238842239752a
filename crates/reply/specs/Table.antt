-- Texts and files with known output. 01, "What leastplan prints" and "Sheets with known answers"; 02, request 2.
--
-- In order: what a row says and what the definitions print for it; the rows, 01's example first; the rows of DIMACS files; large
-- numbers. A text of more than 60,000 bytes, and one of more than 16,384 words, are no rows: that they are refused is proved in `typed`
-- and `dimacs`. Definitions only; that the rows are right is proofs/AnswerTable.
use Rattle.std.specs.Prelude.{List, [], ◌∷◌, ℕ}
use Prim.Native.String.{String}
use Rattle.lists.specs.Bytes.{bytes}
use Rattle.reply.specs.Printed.{printed_for, printed_for_file}

pub record Row : Type 0 where
  pub text : List ℕ
  pub printed : List ℕ

abbrev pub row : String → String → Row
row text printed = record { text = bytes text; printed = bytes printed }

-- what the definitions print for a row: its text was typed, or is a file
abbrev pub output : Row → List ℕ
output r = printed_for r.text

abbrev pub output_of_file : Row → List ℕ
output_of_file r = printed_for_file r.text

unfoldable pub rows : List Row
rows =
    -- 01's own example
    row "4 5 2 4 3\n3\n2 1 2\n2 -2 3\n2 -1 4\n" "least 9 3 10\nhold 2 3 4\n"
    -- nothing to hold: `hold` alone
    ∷ row "0 0" "least 0 0 1\nhold\n"
    -- a rule that no plan meets
    ∷ row "0 1 0" "none 1\n"
    -- an entry below 0
    ∷ row "1 4 1 1 -1" "least 4 1 2\nhold -1\n"
    -- a device held at 0 between two held at 1
    ∷ row "3 1 1 1 3 1 1 1 -2 1 3" "least 3 3 4\nhold 1 -2 3\n"
    -- 02, request 3: a rule that names both positions, alone and in front of another
    ∷ row "1 4 1 2 -1 1" "least 0 0 1\nhold\n"
    ∷ row "2 5 7 2 2 1 -1 1 2" "least 7 1 2\nhold 2\n"
    -- an empty text; blanks only
    ∷ row "" "refused 11 0\n"
    ∷ row "  \n" "refused 11 0\n"
    -- a sheet that is refused: too many devices; a word behind the last rule
    ∷ row "201" "refused 12 0\n"
    ∷ row "1 5 0 7" "refused 15 3\n"
    -- 02, request 1: too many rules; the width of the first rule, and of the second
    ∷ row "0 2001" "refused 18 1\n"
    ∷ row "1 5 1 33" "refused 19 3 1\n"
    ∷ row "1 5 2 0 -1" "refused 19 4 2\n"
    -- a text that is refused: a wrong byte; a number outside the words
    ∷ row "0 x" "refused 21 2\n"
    ∷ row "0 2147483648" "refused 22 2\n"
    ∷ []

unfoldable pub file_rows : List Row
file_rows =
    -- 01's own example, every cost 1
    row "c the four devices of 01's example\np cnf 4 3\n1 2 0\n-2 3 0\n-1 4 0\n" "least 3 3 10\nhold 2 3 4\n"
    -- no clause: `hold` alone
    ∷ row "p cnf 2 0" "least 0 0 1\nhold\n"
    -- 02, request 3: a clause that names both positions of a variable, in front of another
    ∷ row "p cnf 2 2\n1 -1 0\n2 0\n" "least 1 1 2\nhold 2\n"
    -- an empty clause
    ∷ row "p cnf 0 1\n0\n" "none 1\n"
    -- a file that is refused: no header; a percent sign; too many variables; an entry beyond them; the 33rd entry of the second clause;
    -- a clause not closed; a token behind the last clause
    ∷ row "" "refused 31 0\n"
    ∷ row "1 2 0\n" "refused 31 0\n"
    ∷ row "p cnf 1 1\n1 0\n%\n0\n" "refused 21 14\n"
    ∷ row "p cnf 201 1" "refused 12 6\n"
    ∷ row "p cnf 1 1\n2 0\n" "refused 14 10\n"
    ∷ row "p cnf 1 2\n0\n1 1 1 1 1 1 1 1 1 1 1 1 1 1 1 1 1 1 1 1 1 1 1 1 1 1 1 1 1 1 1 1 1 0\n" "refused 19 76 2\n"
    ∷ row "p cnf 1 1\n1" "refused 32 11\n"
    ∷ row "p cnf 1 1\n1 0\n0\n" "refused 33 14\n"
    ∷ []

-- numbers that are too large to be counted down: what `spent` prints; 01's largest total; the largest of 64 bits
abbrev pub million : List ℕ
million = bytes "1000000"

abbrev pub five_billion : List ℕ
five_billion = bytes "5000000000"

abbrev pub largest_of64 : List ℕ
largest_of64 = bytes "18446744073709551615"
