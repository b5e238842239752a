-- A hall written as DIMACS text in the usual way: comment lines, the header line, one clause a line with 0 at its end. 02, request 2.
--
-- In order: lines; the comments; the clauses; the whole. That such a text reads back as its hall is a theorem (proofs/WrittenBack).
-- Definitions only.
use Rattle.std.specs.Prelude.{List, [], ◌∷◌, ◌++◌, ℕ, length}
use Rattle.lists.specs.Bytes.{bytes}
use Rattle.hall.specs.Hall.{Rule, Hall}
use Rattle.hall.specs.Ranges.{words_of, entry_words}
use Rattle.typed.specs.Printing.{digits_of, printed_word}

-- what is written of each item, one after another
unfoldable pub written_each : {A : Type 0} → (A → List ℕ) → List A → List ℕ
written_each f [] = []
written_each f (a ∷ l) = f a ++ written_each f l

-- "lines (to byte 10) starting with `c`"
abbrev pub comment_line : List ℕ → List ℕ
comment_line l = bytes "c" ++ (l ++ bytes "\n")

-- "the header is `p cnf` and the numbers of variables and clauses"
abbrev pub header_line : (n m : ℕ) → List ℕ
header_line n m = bytes "p cnf " ++ (digits_of n ++ (bytes " " ++ (digits_of m ++ bytes "\n")))

-- "each clause closed by 0"
abbrev pub clause_line : Rule → List ℕ
clause_line c = written_each (λ z. printed_word z ++ bytes " ") (words_of entry_words c) ++ bytes "0\n"

unfoldable pub written_file : (comments : List (List ℕ)) → Hall → List ℕ
written_file comments h = written_each comment_line comments ++ (header_line (length h.costs) (length h.rules) ++ written_each clause_line h.rules)
