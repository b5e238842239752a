-- Halls with known clauses: the example of document 001, section 5.1, and sheets of document 01. Definitions only; that the rows
-- are right is proofs/ClauseTable.
use Rattle.std.specs.Prelude.{List, [], ◌∷◌, ℕ}
use Rattle.hall.specs.Hall.{at1, at0, Rule, Hall}
use Rattle.rails.specs.Weighted.{Clause, hard, soft}

pub record Row : Type 0 where
  pub hall : Hall
  pub clauses : List Clause

abbrev pub row : List ℕ → List Rule → List Clause → Row
row costs rules clauses = record { hall = record { costs = costs; rules = rules }; clauses = clauses }

unfoldable pub rows : List Row
rows =
    -- 001, example 1: (x1 or not x2) and (x3 or not x1) and (not x2 or not x3), at no cost: "would be encoded as (px1 or nx2)
    -- and (px3 or nx1) and (nx2 or nx3) and (not px1 or not nx1) and (not px2 or not nx2) and (not px3 or not nx3)"
    row
    (0 ∷ 0 ∷ 0 ∷ [])
    ((at1 0 ∷ at0 1 ∷ []) ∷ (at1 2 ∷ at0 0 ∷ []) ∷ (at0 1 ∷ at0 2 ∷ []) ∷ [])
    (hard (at1 0 ∷ at1 3 ∷ [])
    ∷ hard (at1 4 ∷ at1 1 ∷ [])
    ∷ hard (at1 3 ∷ at1 5 ∷ [])
    ∷ hard (at0 0 ∷ at0 1 ∷ [])
    ∷ hard (at0 2 ∷ at0 3 ∷ [])
    ∷ hard (at0 4 ∷ at0 5 ∷ [])
    ∷ [])
    -- no device and no rule
    ∷ row [] [] []
    -- an empty rule
    ∷ row [] ([] ∷ []) (hard [] ∷ [])
    -- a rule that names both positions is left out
    ∷ row (4 ∷ []) ((at0 0 ∷ at1 0 ∷ []) ∷ []) (hard (at0 0 ∷ at0 1 ∷ []) ∷ soft 4 (at0 0 ∷ []) ∷ soft 4 (at0 1 ∷ []) ∷ [])
    -- a cost of 0 gives no soft clause; a repeated entry stays
    ∷ row
    (0 ∷ 3 ∷ [])
    ((at1 1 ∷ at1 1 ∷ at0 0 ∷ []) ∷ [])
    (hard (at1 2 ∷ at1 2 ∷ at1 1 ∷ []) ∷ hard (at0 0 ∷ at0 1 ∷ []) ∷ hard (at0 2 ∷ at0 3 ∷ []) ∷ soft 3 (at0 2 ∷ []) ∷ soft 3 (at0 3 ∷ []) ∷ [])
    ∷ []
