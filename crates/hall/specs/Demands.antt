-- The three demands as one claim about a sheet, a budget, a plan room's length and an answer. 01, "The answer sheet of the
-- search" and "What acceptance reads in the contracts".
--
-- `Answered` speaks of sheets, reasons, plans and the number of nodes; neither the decoder nor the walk's best is in it. That
-- exactly one answer has it, and which, are theorems (proofs/Answers); so each case is given exactly where it holds (proofs/Exactly).
-- The contract of the search cites it. Definitions only.
use Rattle.std.specs.Prelude.{◌≡◌, List, ℕ, ◌≤◌, ◌<◌, length, ℤ}
use Rattle.hall.specs.Hall.{Hall, Plan}
use Rattle.hall.specs.Order.{held_entries, sum_of, LeastOf, NoneOf}
use Rattle.hall.specs.Settings.{Satisfies}
use Rattle.hall.specs.Walk.{walk_hall}
use Rattle.hall.specs.Ranges.{SheetOf}
use Rattle.hall.specs.Bound.{bound_of, Bounded}
use Rattle.hall.specs.Due.{Reason}
use Rattle.hall.specs.Answer.{Answer, least, none, spent, refused}

-- demand 3, of a walk that was finished: "the number in document 01's walk", its bound, and that the budget allows it
pub record WalkCount (h : Hall) (budget opened : ℕ) : Type 0 where
  pub walks : opened ≡ (walk_hall h).opened
  pub bounded : Bounded h opened
  pub allowed : opened ≤ budget

-- code 0: the least plan of the sheet's hall, with the exact sum of its held devices' costs and their number
pub record SaysLeast (ws : List ℤ) (budget room cost held opened : ℕ) (p : Plan) : Type 0 where
  pub hall : Hall
  pub sheet : SheetOf hall ws room
  pub plan : LeastOf Satisfies hall p
  pub total : cost ≡ sum_of hall.costs (held_entries p)
  pub number : held ≡ length (held_entries p)
  pub count : WalkCount hall budget opened

-- code 1: no plan meets every rule
pub record SaysNone (ws : List ℤ) (budget room opened : ℕ) : Type 0 where
  pub hall : Hall
  pub sheet : SheetOf hall ws room
  pub plan : NoneOf Satisfies hall
  pub count : WalkCount hall budget opened

-- code 2: the walk needs more nodes than the budget; "nodes opened, equal to the budget", and so below the bound
pub record SaysSpent (ws : List ℤ) (budget room opened : ℕ) : Type 0 where
  pub hall : Hall
  pub sheet : SheetOf hall ws room
  pub count : opened ≡ budget
  pub over : budget < (walk_hall hall).opened
  pub below : opened < bound_of hall

abbrev pub Answered : List ℤ → (budget room : ℕ) → Answer → Type 0
Answered ws budget room (least cost held opened p) = SaysLeast ws budget room cost held opened p
Answered ws budget room (none opened) = SaysNone ws budget room opened
Answered ws budget room (spent opened) = SaysSpent ws budget room opened
Answered ws budget room (refused f place) = Reason f place ws room
