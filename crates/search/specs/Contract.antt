-- The contract of `least_plan`: this paper's numbers and the plan room, and the three demands in their own words.
--
-- In order: the numbers of an answer; an answer with its plan, as the definitions have it; the contract. Definitions only.
use Rattle.std.specs.Prelude.{◌≡◌, List, [], ◌∷◌, ℕ, length, take, ℤ, Result, Ok, Err}
use Rattle.hall.specs.Hall.{Plan}
use Rattle.hall.specs.Due.{devices_on}
use Rattle.hall.specs.Answer as hall
use Rattle.hall.specs.Answer.{answer, numbers, room_after}
use Rattle.hall.specs.Demands.{Answered}
use Rattle.refusals.specs.Contract.{fault_of, numbers_at}
use Rattle.refusals.specs.declared.Refusal.{Refusal}
use Rattle.refusals.specs.declared.Refused.{Refused}
use Rattle.search.specs.declared.Answer.{Answer}
use Rattle.search.specs.declared.Answer.TheVariants.{Least, None, Spent}

-- "Code" and "Returned" of the table, for each case of the answer; of a refusal as the sheet's reader tells them
abbrev pub numbers_of : Result Answer (Refused Refusal) → List ℕ
numbers_of (Ok (Least cost held opened)) = 0 ∷ cost ∷ held ∷ opened ∷ []
numbers_of (Ok (None opened)) = 1 ∷ opened ∷ []
numbers_of (Ok (Spent opened)) = 2 ∷ opened ∷ []
numbers_of (Err e) = numbers_at e.kind e.place

-- an answer as the definitions have it, with the plan that stands in the plan room
abbrev pub answer_of : Result Answer (Refused Refusal) → Plan → hall.Answer
answer_of (Ok (Least cost held opened)) plan = hall.least cost held opened plan
answer_of (Ok (None opened)) plan = hall.none opened
answer_of (Ok (Spent opened)) plan = hall.spent opened
answer_of (Err e) plan = hall.refused (fault_of e.kind) e.place

pub record Finds (ws : List ℤ) (budget : ℕ) (before : List ℕ) (r : Result Answer (Refused Refusal)) (after : List ℕ) : Type 0 where
  -- the paper's numbers of the answer are the definition's for these words, this budget and this room's length
  pub says : numbers_of r ≡ numbers (answer ws budget (length before))
  -- the plan room afterwards, for every case
  pub room : after ≡ room_after (answer ws budget (length before)) before
  -- the three demands, as one claim (hall/specs/Demands): this is the answer to the sheet, with the plan that now stands in the first n
  -- bytes of the room. No other answer has it, and each case is given exactly where it holds (proofs/Only)
  pub demands : Answered ws budget (length before) (answer_of r (take (devices_on ws) after))
