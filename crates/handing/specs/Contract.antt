-- The contract of `edition_for`: the edition that the arguments ask for; and those of `hand_over` and `hand_sheet`, each by what
-- stands in front of the room afterwards. Definitions only.
use Rattle.std.specs.Prelude.{cond, List, ℕ, ℤ, ltb, Option, Some, None}
use Rattle.lists.specs.Bytes.{bytes}
use Rattle.printing.specs.Contract.{InRoom}
use Rattle.wcnf.specs.Format.{same}
use Rattle.wcnf.specs.declared.Edition.{Edition}
use Rattle.wcnf.specs.declared.Edition.TheVariants.{Since2022, Before2022}
use Rattle.handing.specs.Handed.{handed_sheet, handed_for}

-- for so many arguments, the program's name among them, and the first behind it: "the edition from 2022 .., or with the one
-- argument `old` that of the edition before"; any other ask for nothing
abbrev pub chosen : (count : ℕ) (word : List ℕ) → Option Edition
chosen count word = cond (ltb count 2) (Some Since2022) (cond (ltb 2 count) None (cond (same word (bytes "old")) (Some Before2022) None))

-- from the words of a sheet
abbrev pub HandsSheet : List ℤ → Edition → (before : List ℕ) (r : ℕ) (after : List ℕ) → Type 0
HandsSheet words edition = InRoom 100000 (handed_sheet edition words)

-- from the text that was typed
abbrev pub Hands : (text : List ℕ) → Edition → (before : List ℕ) (r : ℕ) (after : List ℕ) → Type 0
Hands text edition = InRoom 100000 (handed_for edition text)
