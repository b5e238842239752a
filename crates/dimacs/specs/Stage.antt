-- How far a rule file was read, and its sheet so far. 02, request 2.
--
-- In order: the stages; the hall of a file; the words of a sheet that is not yet whole. Definitions only.
use Rattle.std.specs.Prelude.{List, [], ◌∷◌, ◌++◌, ℕ, replicate, ℤ, pos}
use Rattle.hall.specs.Hall.{Rule, Hall}
use Rattle.hall.specs.Ranges.{words_of, number_words, rule_words}

-- the number of variables comes next; the number of clauses; or a number of the clauses, behind those that are closed and the
-- entries of the one that is not
pub data Stage : Type 0 where
  variables : Stage
  clauses : (n : ℕ) → Stage
  inside : (n m : ℕ) (closed : List Rule) (entries : Rule) → Stage

-- "Every cost is 1"
abbrev pub unit_hall : (n : ℕ) → List Rule → Hall
unit_hall n rules = record { costs = replicate n 1; rules = rules }

-- the sheet so far: "the variable count needs 1 + n, a clause's first entry two, an empty clause's 0 one"
abbrev pub device_words : ℕ → List ℤ
device_words n = pos n ∷ words_of number_words (replicate n 1)

abbrev pub open_words : Rule → List ℤ
open_words [] = []
open_words (e ∷ es) = rule_words (e ∷ es)

unfoldable pub sheet_so_far : Stage → List ℤ
sheet_so_far variables = []
sheet_so_far (clauses n) = device_words n
sheet_so_far (inside n m closed entries) = device_words n ++ (pos m ∷ (words_of rule_words closed ++ open_words entries))
