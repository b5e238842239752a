-- The contracts of `leastplan_search`, `leastplan_cnf_read`, `leastplan_wcnf_write` and `leastplan_ties`: this paper's numbers in the lent
-- array, the room, and all that the search, the reader, the writer or the list itself promises. 01, "The answer sheet of the search"; 02,
-- requests 2, 4 and 5. Definitions only.
use Rattle.std.specs.Prelude.{◌≡◌, List, ℕ, zero, suc, length, ℤ, Result}
use Rattle.lists.specs.Lists.{in_front}
use Rattle.hall.specs.Answer.{answer, room_after}
use Rattle.hall.specs.Answer as hall
use Rattle.hall.specs.Listing.{listing, list_numbers, list_room_after}
use Rattle.dimacs.specs.File.{read_file}
use Rattle.dimacs.specs.Contract as cnf
use Rattle.dimacs.specs.Contract.{filed_of, Files}
use Rattle.dimacs.specs.declared.Flaw.{Flaw}
use Rattle.refusals.specs.declared.Refusal.{Refusal}
use Rattle.refusals.specs.declared.Refused.{Refused}
use Rattle.search.specs.Contract.{Finds}
use Rattle.search.specs.declared.Answer.{Answer}
use Rattle.tied.specs.Contract.{Hindrance, ListsTies}
use Rattle.tied.specs.declared.Tied.{Tied}
use Rattle.wcnf.specs.Wcnf.{writing}
use Rattle.wcnf.specs.Contract as wcnf
use Rattle.wcnf.specs.Contract.{Written, Writes}
use Rattle.wcnf.specs.declared.Edition.{Edition}
use Rattle.wcnf.specs.declared.Edition.TheVariants.{Since2022, Before2022}

pub record Searches (ws : List ℤ) (budget : ℕ) (before numbers : List ℕ) (after numbers' : List ℕ) : Type 0 where
  -- "Code" and "Returned" stand one after another in front of the array; the places behind them are unchanged
  pub told : numbers' ≡ in_front (hall.numbers (answer ws budget (length before))) numbers
  -- the plan room afterwards, for every case
  pub room : after ≡ room_after (answer ws budget (length before)) before
  -- the search's own answer, and the three demands in their own words
  pub value : Result Answer (Refused Refusal)
  pub finds : Finds ws budget before value after

pub record ReadsFile (text : List ℕ) (before : List ℤ) (numbers : List ℕ) (after : List ℤ) (numbers' : List ℕ) : Type 0 where
  -- 0 and the length of the sheet, or the numbers of the refusal, stand in front of the array; the places behind them are unchanged
  pub told : numbers' ≡ in_front (cnf.numbers_of (filed_of (read_file text (length before)))) numbers
  -- the room of words afterwards, for every case
  pub room : after ≡ cnf.room_after (read_file text (length before)) before
  -- the reader's own answer, and what it is given for
  pub value : Result ℕ (Refused Flaw)
  pub files : Files text before value after

-- 0 is the edition from 2022, any other number the one before
abbrev pub edition_of : ℕ → Edition
edition_of zero = Since2022
edition_of (suc n) = Before2022

pub record WritesText (ws : List ℤ) (edition : ℕ) (before numbers : List ℕ) (after numbers' : List ℕ) : Type 0 where
  -- 0 and the length of the text, or the numbers of the refusal, stand in front of the array; the places behind them are unchanged
  pub told : numbers' ≡ in_front (wcnf.numbers_written (writing (edition_of edition) ws (length before))) numbers
  -- the text room afterwards, for every case
  pub room : after ≡ wcnf.room_after (writing (edition_of edition) ws (length before)) before
  -- the writer's own answer, and what it is given for
  pub value : Written
  pub writes : Writes ws (edition_of edition) before value after

pub record ListsPlans (ws : List ℤ) (budget : ℕ) (before numbers : List ℕ) (after numbers' : List ℕ) : Type 0 where
  -- the code and what is returned stand one after another in front of the array; the places behind them are unchanged
  pub told : numbers' ≡ in_front (list_numbers (listing ws budget (length before))) numbers
  -- the room afterwards, for every case
  pub room : after ≡ list_room_after (listing ws budget (length before)) before
  -- the list's own answer, and what it promises in its own words
  pub value : Result Tied (Refused Hindrance)
  pub lists : ListsTies ws budget before value after
