-- Halls with known text, and texts that are read and that are not of the format. Definitions only; that the rows are right is
-- proofs/TextTable.
use Rattle.std.specs.Prelude.{List, [], ◌∷◌, ℕ}
use Rattle.std.proofs.Math.Option.{Option, none, some}
use Prim.Native.String.{String}
use Rattle.lists.specs.Bytes.{bytes}
use Rattle.hall.specs.Hall.{at1, at0, Rule, Hall}
use Rattle.rails.specs.Weighted.{Clause, hard, soft}
use Rattle.wcnf.specs.declared.Edition.TheVariants.{Since2022, Before2022}
use Rattle.wcnf.specs.Wcnf.{wcnf}
use Rattle.wcnf.specs.Format.{Formula}

-- ── what is written ──
pub record Row : Type 0 where
  pub hall : Hall
  pub since : List ℕ
  pub before : List ℕ

abbrev pub row : List ℕ → List Rule → String → String → Row
row costs rules since before = record { hall = record { costs = costs; rules = rules }; since = bytes since; before = bytes before }

-- the row as the definitions write it
abbrev pub rewritten : Row → Row
rewritten r = record { hall = r.hall; since = wcnf Since2022 r.hall; before = wcnf Before2022 r.hall }

unfoldable pub rows : List Row
rows =
    -- 01's four devices
    row
    (5 ∷ 2 ∷ 4 ∷ 3 ∷ [])
    ((at1 0 ∷ at1 1 ∷ []) ∷ (at0 1 ∷ at1 2 ∷ []) ∷ (at0 0 ∷ at1 3 ∷ []) ∷ [])
    "h 1 3 0\nh 4 5 0\nh 2 7 0\nh -1 -2 0\nh -3 -4 0\nh -5 -6 0\nh -7 -8 0\n5 -1 0\n5 -2 0\n2 -3 0\n2 -4 0\n4 -5 0\n4 -6 0\n3 -7 0\n3 -8 0\n"
    "p wcnf 8 15 29\n29 1 3 0\n29 4 5 0\n29 2 7 0\n29 -1 -2 0\n29 -3 -4 0\n29 -5 -6 0\n29 -7 -8 0\n5 -1 0\n5 -2 0\n2 -3 0\n2 -4 0\n4 -5 0\n4 -6 0\n3 -7 0\n3 -8 0\n"
    -- the sheet `0 0`
    ∷ row [] [] "" "p wcnf 0 0 1\n"
    -- an empty rule
    ∷ row [] ([] ∷ []) "h 0\n" "p wcnf 0 1 1\n1 0\n"
    -- a rule that every plan meets, between two others; a cost of 0
    ∷ row
    (0 ∷ 7 ∷ [])
    ((at1 1 ∷ at1 1 ∷ []) ∷ (at1 0 ∷ at1 1 ∷ at0 0 ∷ []) ∷ (at0 0 ∷ []) ∷ [])
    "h 3 3 0\nh 2 0\nh -1 -2 0\nh -3 -4 0\n7 -3 0\n7 -4 0\n"
    "p wcnf 4 6 15\n15 3 3 0\n15 2 0\n15 -1 -2 0\n15 -3 -4 0\n7 -3 0\n7 -4 0\n"
    ∷ []

-- ── what is read ──
abbrev pub formula : ℕ → List Clause → Option Formula
formula v cs = some (record { variables = v; clauses = cs })

pub record Saying : Type 0 where
  pub text : List ℕ
  pub says : Option Formula

abbrev pub saying : String → Option Formula → Saying
saying text says = record { text = bytes text; says = says }

-- from 2022
unfoldable pub since_says : List Saying
since_says =
    saying "" (formula 0 [])
    -- comments, blanks, a tab, byte 13, an empty line, and no byte 10 at the end
    ∷ saying "c a comment\n  h 1  -2 0 \r\n\n\t3 2 0" (formula 2 (hard (at1 0 ∷ at0 1 ∷ []) ∷ soft 3 (at1 1 ∷ []) ∷ []))
    -- empty clauses; a weight above 64 bits
    ∷ saying "h 0\n20000000000000000000 0\n" (formula 0 (hard [] ∷ soft 20000000000000000000 [] ∷ []))
    -- a clause that is not ended; ended too soon; over two lines; a weight of 0; no weight; a plus; a letter; the first line of
    -- the other edition
    ∷ saying "h 1\n" none
    ∷ saying "h 1 0 2 0\n" none
    ∷ saying "h 1\n0\n" none
    ∷ saying "0 1 0\n" none
    ∷ saying "h\n" none
    ∷ saying "h +1 0\n" none
    ∷ saying "h x 0\n" none
    ∷ saying "p wcnf 1 1 2\n2 1 0\n" none
    ∷ []

-- before 2022
unfoldable pub before_says : List Saying
before_says =
    saying "c top is 4\np wcnf 3 2 4\n4 1 -2 0\nc\n3 2 0\n" (formula 3 (hard (at1 0 ∷ at0 1 ∷ []) ∷ soft 3 (at1 1 ∷ []) ∷ []))
    ∷ saying "p wcnf 0 0 1\n" (formula 0 [])
    -- too few clauses, too many, a variable beyond the number, a weight above the top, a weight of 0, no first line, `h`
    ∷ saying "p wcnf 2 2 4\n4 1 0\n" none
    ∷ saying "p wcnf 2 1 4\n4 1 0\n4 2 0\n" none
    ∷ saying "p wcnf 2 1 4\n4 3 0\n" none
    ∷ saying "p wcnf 2 1 4\n5 1 0\n" none
    ∷ saying "p wcnf 2 1 4\n0 1 0\n" none
    ∷ saying "4 1 0\n" none
    ∷ saying "p cnf 2 1 4\n4 1 0\n" none
    ∷ saying "p wcnf 2 1 4\nh 1 0\n" none
    ∷ []
