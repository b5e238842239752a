-- The contracts of `best_of` and `ties_of`: what the walk of a sheet finds, in numbers and in the lent room.
--
-- In order: the numbers of an outcome; what is found, with the plans that are handed on; its numbers and its room; what the two functions
-- find; either of it, by what is asked for; their contract. Definitions only.
use Rattle.std.specs.Prelude.{◌≡◌, List, [], ◌∷◌, ℕ, min, length, take, ℤ, Result, Ok, Err}
use Rattle.hall.specs.Hall.{Hall, Plan}
use Rattle.hall.specs.Walk.{walk_hall}
use Rattle.hall.specs.Reading.{Fault, refusal_numbers, Read, bad, got, decode}
use Rattle.hall.specs.Answer as hall
use Rattle.hall.specs.Answer.{within, answer}
use Rattle.hall.specs.Ties.{nothing_kept, keep_all, joined}
use Rattle.plans.specs.Runs.{written_in}
use Rattle.refusals.specs.Contract.{numbers_at}
use Rattle.refusals.specs.declared.Refusal.{Refusal}
use Rattle.refusals.specs.declared.Refused.{Refused}
use Rattle.walk.specs.declared.solve.Asked.{Asked}
use Rattle.walk.specs.declared.solve.Asked.TheVariants as asked
use Rattle.walk.specs.declared.Outcome.{Outcome}
use Rattle.walk.specs.declared.Outcome.TheVariants.{Best, None, Spent}

-- 0, devices, cost, devices held, plans and nodes; else as "Code" and "Returned" of 01's table
abbrev pub numbers_of : Result Outcome (Refused Refusal) → List ℕ
numbers_of (Ok (Best n cost held equal opened)) = 0 ∷ n ∷ cost ∷ held ∷ equal ∷ opened ∷ []
numbers_of (Ok (None opened)) = 1 ∷ opened ∷ []
numbers_of (Ok (Spent opened)) = 2 ∷ opened ∷ []
numbers_of (Err e) = numbers_at e.kind e.place

-- what the walk of a sheet finds: a best plan with its numbers, and the plans that are handed on; else as the answer's cases
pub data Found : Type 0 where
  best : (n cost held opened : ℕ) → List Plan → Found
  none : (opened : ℕ) → Found
  spent : (opened : ℕ) → Found
  refused : Fault → (place : ℕ) → Found

-- of the plans 257 are counted
abbrev pub found_numbers : Found → List ℕ
found_numbers (best n cost held opened ps) = 0 ∷ n ∷ cost ∷ held ∷ min 257 (length ps) ∷ opened ∷ []
found_numbers (none opened) = 1 ∷ opened ∷ []
found_numbers (spent opened) = 2 ∷ opened ∷ []
found_numbers (refused f place) = refusal_numbers f place

-- and 256 are written, where they have place
abbrev pub found_room : Found → List ℕ → List ℕ
found_room (best n cost held opened ps) room = written_in (joined (take 256 ps)) room
found_room (none opened) room = room
found_room (spent opened) room = room
found_room (refused f place) room = room

-- an answer of 01's table, with the plans that are handed on beside its least plan
abbrev pub found_of : (Plan → List Plan) → hall.Answer → Found
found_of plans (hall.least cost held opened p) = best (length p) cost held opened (plans p)
found_of plans (hall.none opened) = none opened
found_of plans (hall.spent opened) = spent opened
found_of plans (hall.refused f place) = refused f place

-- `best_of`: the least plan alone
abbrev pub best_found : List ℤ → (room budget : ℕ) → Found
best_found ws room budget = found_of (λ p. p ∷ []) (answer ws budget room)

-- `ties_of`: the plans that tie, each once, in the order in which the walk opens them
abbrev pub kept_ties : Hall → List Plan
kept_ties h = (keep_all h nothing_kept (walk_hall h).plans).ties

abbrev pub ties_read : (budget : ℕ) → Read Hall → Found
ties_read budget (bad f i) = refused f i
ties_read budget (got h i) = found_of (λ p. kept_ties h) (within h budget (walk_hall h))

abbrev pub ties_found : List ℤ → (budget : ℕ) → Found
ties_found ws budget = ties_read budget (decode 200 ws)

-- either, by what is asked for
abbrev pub handed : Asked → Hall → Plan → List Plan
handed asked.Best h p = p ∷ []
handed asked.Ties h p = kept_ties h

abbrev pub found_read : Asked → (budget : ℕ) → Read Hall → Found
found_read a budget (bad f i) = refused f i
found_read a budget (got h i) = found_of (handed a h) (within h budget (walk_hall h))

abbrev pub found : Asked → List ℤ → (room budget : ℕ) → Found
found a ws room budget = found_read a budget (decode room ws)

-- the contract of both: what is found, the room before, the outcome and the room afterwards
pub record Finds (f : Found) (before : List ℕ) (r : Result Outcome (Refused Refusal)) (after : List ℕ) : Type 0 where
  pub says : numbers_of r ≡ found_numbers f
  pub room : after ≡ found_room f before
