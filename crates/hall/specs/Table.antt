-- Sheets with known answers. 01, "Sheets with known answers", with what 02 changed in it, and rows of our own.
--
-- In order: what a row says and what the definitions say for it; 01's rows with a star; 01's other rows; rows for ways astray
-- that no starred row tells apart; which count was wrong; rules that name both positions; rules in full settings; the largest
-- total. Definitions only; that the rows are right is proofs/AnswerTables.
use Rattle.std.specs.Prelude.{Bool, true, false, List, [], ◌∷◌, ◌++◌, ℕ, zero, suc, replicate, ℤ}
use Rattle.lists.specs.Words.{+, -}
use Rattle.hall.specs.Hall.{at1, at0, Rule, Hall}
use Rattle.hall.specs.Order.{held_entries}
use Rattle.hall.specs.Settings.{Setting}
use Rattle.hall.specs.Ranges.{words_of, entry_words}
use Rattle.hall.specs.Answer.{Answer, least, none, spent, refused, answer, numbers}

-- an answer as the table writes it: the code and what is returned, then the entries behind `hold`
pub record Written : Type 0 where
  pub told : List ℕ
  pub hold : List ℤ

pub record Row : Type 0 where
  pub sheet : List ℤ
  pub budget : ℕ
  pub room : ℕ
  pub expected : Written

abbrev pub holding : Answer → List ℤ
holding (least cost held opened p) = words_of entry_words (held_entries p)
holding (none opened) = []
holding (spent opened) = []
holding (refused f place) = []

abbrev pub written_of : Answer → Written
written_of a = record { told = numbers a; hold = holding a }

-- what the definitions say for a row
unfoldable pub written : Row → Written
written r = written_of (answer r.sheet r.budget r.room)

-- "Budget 1,000 unless named", and a plan room of 200 bytes unless named
abbrev pub under : ℕ → ℕ → List ℤ → List ℕ → List ℤ → Row
under budget room sheet told hold = record { sheet = sheet; budget = budget; room = room; expected = record { told = told; hold = hold } }

abbrev pub row : List ℤ → List ℕ → List ℤ → Row
row = under 1000 200

abbrev pub four_devices : List ℤ
four_devices = + 4 ∷ + 5 ∷ + 2 ∷ + 4 ∷ + 3 ∷ + 3 ∷ + 2 ∷ + 1 ∷ + 2 ∷ + 2 ∷ - 2 ∷ + 3 ∷ + 2 ∷ - 1 ∷ + 4 ∷ []

-- 01's rows with a star. 02, request 3: "the row "1, 4, 1, 2, -1, 1" becomes least 0 0 1"
unfoldable pub starred : List Row
starred =
    row (+ 0 ∷ + 0 ∷ []) (0 ∷ 0 ∷ 0 ∷ 1 ∷ []) []
    ∷ row (+ 0 ∷ + 1 ∷ + 0 ∷ []) (1 ∷ 1 ∷ []) []
    ∷ row (+ 1 ∷ + 4 ∷ + 2 ∷ + 1 ∷ + 1 ∷ + 1 ∷ - 1 ∷ []) (1 ∷ 2 ∷ []) []
    ∷ row (+ 2 ∷ + 0 ∷ + 0 ∷ + 1 ∷ + 1 ∷ + 1 ∷ []) (0 ∷ 0 ∷ 1 ∷ 2 ∷ []) (+ 1 ∷ [])
    ∷ row (+ 2 ∷ + 3 ∷ + 3 ∷ + 1 ∷ + 2 ∷ + 2 ∷ + 1 ∷ []) (0 ∷ 3 ∷ 1 ∷ 3 ∷ []) (+ 2 ∷ [])
    ∷ row (+ 2 ∷ + 1 ∷ + 10 ∷ + 1 ∷ + 2 ∷ + 1 ∷ + 2 ∷ []) (0 ∷ 1 ∷ 1 ∷ 3 ∷ []) (+ 1 ∷ [])
    ∷ under 2 200 (+ 2 ∷ + 1 ∷ + 10 ∷ + 1 ∷ + 2 ∷ + 1 ∷ + 2 ∷ []) (2 ∷ 2 ∷ []) []
    ∷ row (+ 1 ∷ + 4 ∷ + 1 ∷ + 2 ∷ - 1 ∷ + 1 ∷ []) (0 ∷ 0 ∷ 0 ∷ 1 ∷ []) []
    ∷ row four_devices (0 ∷ 9 ∷ 3 ∷ 10 ∷ []) (+ 2 ∷ + 3 ∷ + 4 ∷ [])
    ∷ row
    (+ 5 ∷ + 1000000000 ∷ + 1000000000 ∷ + 1000000000 ∷ + 1000000000 ∷ + 1000000000 ∷ + 5 ∷ + 1 ∷ + 1 ∷ + 1 ∷ + 2 ∷ + 1 ∷ + 3 ∷ + 1 ∷ + 4 ∷ + 1 ∷ + 5 ∷ [])
    (0 ∷ 5000000000 ∷ 5 ∷ 6 ∷ [])
    (+ 1 ∷ + 2 ∷ + 3 ∷ + 4 ∷ + 5 ∷ [])
    ∷ row
    (+ 4 ∷ + 1000000000 ∷ + 1000000000 ∷ + 1000000000 ∷ + 1000000000 ∷ + 3 ∷ + 2 ∷ + 1 ∷ + 4 ∷ + 2 ∷ + 2 ∷ + 4 ∷ + 2 ∷ + 3 ∷ + 4 ∷ [])
    (0 ∷ 1000000000 ∷ 1 ∷ 7 ∷ [])
    (+ 4 ∷ [])
    ∷ []

-- 01's other rows. 02, request 1: "01's "12 at 3" becomes 19 at 3, rule 1"
unfoldable pub unstarred : List Row
unstarred =
    row [] (11 ∷ 0 ∷ []) []
    ∷ row (+ 201 ∷ []) (12 ∷ 0 ∷ []) []
    ∷ row (+ 1 ∷ + 1000000000 ∷ + 0 ∷ []) (0 ∷ 0 ∷ 0 ∷ 1 ∷ []) []
    ∷ row (+ 1 ∷ + 1000000001 ∷ + 0 ∷ []) (13 ∷ 1 ∷ []) []
    ∷ row (+ 1 ∷ + 5 ∷ + 1 ∷ + 1 ∷ []) (11 ∷ 4 ∷ []) []
    ∷ row (+ 1 ∷ + 5 ∷ + 1 ∷ + 1 ∷ + 2 ∷ []) (14 ∷ 4 ∷ []) []
    ∷ row (+ 1 ∷ + 5 ∷ + 1 ∷ + 33 ∷ []) (19 ∷ 3 ∷ 1 ∷ []) []
    ∷ row (+ 1 ∷ + 5 ∷ + 0 ∷ + 7 ∷ []) (15 ∷ 3 ∷ []) []
    ∷ under 1000 0 (+ 1 ∷ + 5 ∷ + 0 ∷ []) (16 ∷ 1 ∷ []) []
    ∷ under 0 200 (+ 0 ∷ + 0 ∷ []) (2 ∷ 0 ∷ []) []
    ∷ []

-- Ways astray that no starred row tells apart, each with what it would answer instead
unfoldable pub astray : List Row
astray =
    -- closing a node whose cost merely equals the best's: hold 1 3
    row (+ 3 ∷ + 1 ∷ + 1 ∷ + 0 ∷ + 2 ∷ + 2 ∷ + 1 ∷ + 2 ∷ + 1 ∷ + 3 ∷ []) (0 ∷ 1 ∷ 2 ∷ 5 ∷ []) (+ 2 ∷ + 3 ∷ [])
    -- step 2 without its + 1: 4 opened
    ∷ row (+ 2 ∷ + 1 ∷ + 1 ∷ + 2 ∷ + 2 ∷ + 1 ∷ + 2 ∷ + 1 ∷ + 1 ∷ []) (0 ∷ 1 ∷ 1 ∷ 3 ∷ []) (+ 1 ∷ [])
    -- a repeated entry skipped: 2 opened
    ∷ row (+ 1 ∷ + 4 ∷ + 1 ∷ + 2 ∷ + 1 ∷ + 1 ∷ []) (0 ∷ 4 ∷ 1 ∷ 3 ∷ []) (+ 1 ∷ [])
    -- a node closed early for its empty rule: none 1
    ∷ row (+ 1 ∷ + 0 ∷ + 2 ∷ + 1 ∷ + 1 ∷ + 0 ∷ []) (1 ∷ 2 ∷ []) []
    -- step 2 asked before step 1, or the first plan of equal cost and number kept: hold 1
    ∷ row (+ 2 ∷ + 3 ∷ + 3 ∷ + 1 ∷ + 2 ∷ + 1 ∷ + 2 ∷ []) (0 ∷ 3 ∷ 1 ∷ 3 ∷ []) (+ 2 ∷ [])
    -- fewer devices held forgotten between equal costs: hold 2 3, whose first mark is free
    ∷ row (+ 3 ∷ + 0 ∷ + 0 ∷ + 0 ∷ + 2 ∷ + 2 ∷ + 2 ∷ + 1 ∷ + 2 ∷ + 3 ∷ + 1 ∷ []) (0 ∷ 0 ∷ 1 ∷ 5 ∷ []) (+ 1 ∷ [])
    -- a plan without superfluous holds taken for the least one: least 3 1, hold 1
    ∷ row (+ 3 ∷ + 3 ∷ + 1 ∷ + 1 ∷ + 2 ∷ + 2 ∷ + 1 ∷ + 2 ∷ + 2 ∷ + 1 ∷ + 3 ∷ []) (0 ∷ 2 ∷ 2 ∷ 5 ∷ []) (+ 2 ∷ + 3 ∷ [])
    -- a sheet that has a plan, searched to its end by exactly the budget, called spent
    ∷ under 10 200 four_devices (0 ∷ 9 ∷ 3 ∷ 10 ∷ []) (+ 2 ∷ + 3 ∷ + 4 ∷ [])
    ∷ under 9 200 four_devices (2 ∷ 9 ∷ []) []
    -- a bad sheet at budget 0 called spent; words behind the sheet told after the room; the rule count trusted ahead of its rules
    ∷ under 0 200 (+ 1 ∷ + 5 ∷ + 0 ∷ + 7 ∷ []) (15 ∷ 3 ∷ []) []
    ∷ under 1000 0 (+ 1 ∷ + 5 ∷ + 0 ∷ + 7 ∷ []) (15 ∷ 3 ∷ []) []
    ∷ row (+ 0 ∷ + 2000 ∷ + 1 ∷ + 1 ∷ []) (14 ∷ 3 ∷ []) []
    ∷ []

-- 02, request 1, "Which count was wrong": rows that tell the three counts apart, and the rules
unfoldable pub counts : List Row
counts =
    -- a device count below 0
    row (- 1 ∷ []) (12 ∷ 0 ∷ []) []
    -- a rule count beyond its range, and below 0
    ∷ row (+ 0 ∷ + 2001 ∷ []) (18 ∷ 1 ∷ []) []
    ∷ row (+ 1 ∷ + 5 ∷ - 1 ∷ []) (18 ∷ 2 ∷ []) []
    -- a width below 0
    ∷ row (+ 1 ∷ + 5 ∷ + 1 ∷ - 1 ∷ []) (19 ∷ 3 ∷ 1 ∷ []) []
    -- the third of four rules, behind an empty one and one of two entries
    ∷ row (+ 1 ∷ + 5 ∷ + 4 ∷ + 0 ∷ + 2 ∷ + 1 ∷ - 1 ∷ + 33 ∷ []) (19 ∷ 7 ∷ 3 ∷ []) []
    -- the last of two rules, in a sheet whose words go on behind it
    ∷ row (+ 0 ∷ + 2 ∷ + 0 ∷ + 40 ∷ + 7 ∷ []) (19 ∷ 3 ∷ 2 ∷ []) []
    -- a wrong entry and a missing width of the second rule: no third number
    ∷ row (+ 1 ∷ + 5 ∷ + 2 ∷ + 0 ∷ + 1 ∷ + 2 ∷ []) (14 ∷ 5 ∷ []) []
    ∷ row (+ 1 ∷ + 5 ∷ + 2 ∷ + 0 ∷ []) (11 ∷ 4 ∷ []) []
    ∷ []

-- 02, request 3, "A rule that names both positions": rows that tell it from its neighbours
unfoldable pub doors : List Row
doors =
    -- met at the first node, by exactly the budget
    under 1 200 (+ 1 ∷ + 4 ∷ + 1 ∷ + 2 ∷ - 1 ∷ + 1 ∷ []) (0 ∷ 0 ∷ 0 ∷ 1 ∷ []) []
    -- with another device between the two entries
    ∷ row (+ 2 ∷ + 5 ∷ + 7 ∷ + 1 ∷ + 3 ∷ + 1 ∷ + 2 ∷ - 1 ∷ []) (0 ∷ 0 ∷ 0 ∷ 1 ∷ []) []
    -- in front of another rule: that one alone is branched on; under a budget of one node
    ∷ row (+ 2 ∷ + 5 ∷ + 7 ∷ + 2 ∷ + 2 ∷ + 1 ∷ - 1 ∷ + 1 ∷ + 2 ∷ []) (0 ∷ 7 ∷ 1 ∷ 2 ∷ []) (+ 2 ∷ [])
    ∷ under 1 200 (+ 2 ∷ + 5 ∷ + 7 ∷ + 2 ∷ + 2 ∷ + 1 ∷ - 1 ∷ + 1 ∷ + 2 ∷ []) (2 ∷ 1 ∷ []) []
    -- behind another rule, with each entry twice
    ∷ row (+ 2 ∷ + 5 ∷ + 7 ∷ + 2 ∷ + 1 ∷ + 2 ∷ + 4 ∷ + 1 ∷ + 1 ∷ - 1 ∷ - 1 ∷ []) (0 ∷ 7 ∷ 1 ∷ 2 ∷ []) (+ 2 ∷ [])
    -- every rule
    ∷ row (+ 2 ∷ + 5 ∷ + 7 ∷ + 3 ∷ + 2 ∷ + 1 ∷ - 1 ∷ + 2 ∷ - 2 ∷ + 2 ∷ + 3 ∷ + 2 ∷ + 1 ∷ - 2 ∷ []) (0 ∷ 0 ∷ 0 ∷ 1 ∷ []) []
    -- with a third device, which another rule holds
    ∷ row (+ 3 ∷ + 1 ∷ + 1 ∷ + 1 ∷ + 3 ∷ + 1 ∷ + 3 ∷ + 3 ∷ + 1 ∷ - 3 ∷ - 1 ∷ + 1 ∷ - 2 ∷ []) (0 ∷ 2 ∷ 2 ∷ 3 ∷ []) (- 2 ∷ + 3 ∷ [])
    -- beside a rule that no plan meets; beside two that clash
    ∷ row (+ 1 ∷ + 4 ∷ + 2 ∷ + 3 ∷ + 1 ∷ - 1 ∷ + 1 ∷ + 0 ∷ []) (1 ∷ 1 ∷ []) []
    ∷ row (+ 2 ∷ + 5 ∷ + 7 ∷ + 3 ∷ + 2 ∷ - 2 ∷ + 2 ∷ + 1 ∷ + 1 ∷ + 1 ∷ - 1 ∷ []) (1 ∷ 2 ∷ []) []
    -- no such rules: one position in each of two rules; positions of two devices; one position twice
    ∷ row (+ 1 ∷ + 4 ∷ + 2 ∷ + 2 ∷ + 1 ∷ + 1 ∷ + 2 ∷ - 1 ∷ - 1 ∷ []) (1 ∷ 3 ∷ []) []
    ∷ row (+ 2 ∷ + 1 ∷ + 10 ∷ + 1 ∷ + 2 ∷ + 1 ∷ - 2 ∷ []) (0 ∷ 1 ∷ 1 ∷ 3 ∷ []) (+ 1 ∷ [])
    ∷ row (+ 1 ∷ + 4 ∷ + 1 ∷ + 2 ∷ - 1 ∷ - 1 ∷ []) (0 ∷ 4 ∷ 1 ∷ 3 ∷ []) (- 1 ∷ [])
    ∷ []

-- rules in full settings, for document 000's definition 2: whether all of them are true
pub record Truth : Type 0 where
  pub setting : Setting
  pub rules : List Rule
  pub expected : Bool

abbrev pub truth : Setting → List Rule → Bool → Truth
truth s rs b = record { setting = s; rules = rs; expected = b }

-- "Door open or door closed", and the rules of the four-device sheet
abbrev pub door : List Rule
door = (at0 0 ∷ at1 0 ∷ []) ∷ []

abbrev pub four_rules : List Rule
four_rules = (at1 0 ∷ at1 1 ∷ []) ∷ (at0 1 ∷ at1 2 ∷ []) ∷ (at0 0 ∷ at1 3 ∷ []) ∷ []

unfoldable pub truths : List Truth
truths =
    -- "is always true"
    truth (true ∷ []) door true
    ∷ truth (false ∷ []) door true
    -- devices 2, 3 and 4 are held at 1, and device 1 is set either way
    ∷ truth (true ∷ true ∷ true ∷ true ∷ []) four_rules true
    ∷ truth (false ∷ true ∷ true ∷ true ∷ []) four_rules true
    -- with device 2 set to 0 its free neighbour decides
    ∷ truth (true ∷ false ∷ true ∷ true ∷ []) four_rules true
    ∷ truth (false ∷ false ∷ true ∷ true ∷ []) four_rules false
    -- no setting makes a rule without entries true
    ∷ truth (true ∷ []) ([] ∷ []) false
    ∷ []

-- 01's row of a rule that names both positions, as it was before request 3
abbrev pub earlier_row : Row
earlier_row = row (+ 1 ∷ + 4 ∷ + 1 ∷ + 2 ∷ - 1 ∷ + 1 ∷ []) (0 ∷ 4 ∷ 1 ∷ 3 ∷ []) (+ 1 ∷ [])

-- the largest total: 200 devices at 1,000,000,000, each held by a rule of its own
unfoldable pub singles : ℕ → List Rule
singles zero = []
singles (suc n) = singles n ++ ((at1 n ∷ []) ∷ [])

abbrev pub largest : Hall
largest = record { costs = replicate 200 1000000000; rules = singles 200 }
