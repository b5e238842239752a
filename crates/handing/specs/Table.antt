-- Texts with known output, in both editions: 01's own example, and sheets and texts that are refused. Definitions only; that the
-- rows are right is proofs/AnswerTable.
use Rattle.std.specs.Prelude.{List, [], ◌∷◌, ℕ}
use Prim.Native.String.{String}
use Rattle.lists.specs.Bytes.{bytes}
use Rattle.wcnf.specs.declared.Edition.TheVariants.{Since2022, Before2022}
use Rattle.handing.specs.Handed.{handed_for}

pub record Row : Type 0 where
  pub text : List ℕ
  pub since : List ℕ
  pub before : List ℕ

abbrev pub row : String → String → String → Row
row text since before = record { text = bytes text; since = bytes since; before = bytes before }

-- the row as the definitions print it
abbrev pub reprinted : Row → Row
reprinted r = record { text = r.text; since = handed_for Since2022 r.text; before = handed_for Before2022 r.text }

unfoldable pub rows : List Row
rows =
    -- 01's own example
    row
    "4 5 2 4 3\n3\n2 1 2\n2 -2 3\n2 -1 4\n"
    "h 1 3 0\nh 4 5 0\nh 2 7 0\nh -1 -2 0\nh -3 -4 0\nh -5 -6 0\nh -7 -8 0\n5 -1 0\n5 -2 0\n2 -3 0\n2 -4 0\n4 -5 0\n4 -6 0\n3 -7 0\n3 -8 0\n"
    "p wcnf 8 15 29\n29 1 3 0\n29 4 5 0\n29 2 7 0\n29 -1 -2 0\n29 -3 -4 0\n29 -5 -6 0\n29 -7 -8 0\n5 -1 0\n5 -2 0\n2 -3 0\n2 -4 0\n4 -5 0\n4 -6 0\n3 -7 0\n3 -8 0\n"
    -- the sheet `0 0`
    ∷ row "0 0" "" "p wcnf 0 0 1\n"
    -- a sheet that is refused: no words; too many devices; a width, with its rule; a word behind the last rule
    ∷ row "" "refused 11 0\n" "refused 11 0\n"
    ∷ row "201" "refused 12 0\n" "refused 12 0\n"
    ∷ row "1 5 1 33" "refused 19 3 1\n" "refused 19 3 1\n"
    ∷ row "1 5 0 7" "refused 15 3\n" "refused 15 3\n"
    -- a text that is refused
    ∷ row "0 x" "refused 21 2\n" "refused 21 2\n"
    ∷ []
