-- The answer to a sheet under a budget, this paper's numbers for it, and the plan room afterwards. 01, "The answer sheet of the search".
--
-- In order: the answer's cases; a finished walk; the budget; the whole; its numbers, its count, whether it is finished; the plan
-- room. Definitions only.
use Rattle.std.specs.Prelude.{Bool, true, false, List, [], ◌∷◌, ℕ, ℤ, ltb}
use Rattle.lists.specs.Lists.{in_front}
use Rattle.hall.specs.Hall.{Hall, Plan}
use Rattle.hall.specs.Order.{cost_of, held_of}
use Rattle.hall.specs.Walk.{Best, none_yet, so_far, Walked, walk_hall}
use Rattle.hall.specs.Reading.{Fault, refusal_numbers, Read, bad, got, decode}

-- "The answer is one value with a case each for least, none, spent and refused"
pub data Answer : Type 0 where
  least : (cost held opened : ℕ) → Plan → Answer
  none : (opened : ℕ) → Answer
  spent : (opened : ℕ) → Answer
  refused : Fault → (place : ℕ) → Answer

-- of a walk that was finished
abbrev pub finished : Hall → ℕ → Best → Answer
finished h opened none_yet = none opened
finished h opened (so_far p) = least (cost_of h.costs p) (held_of p) opened p

-- "If a node is to be opened and the count already equals the budget, the whole call stops as "spent"": exactly where the walk
-- opens more nodes than the budget
abbrev pub spent_by : Bool → Hall → ℕ → Walked → Answer
spent_by true h budget w = spent budget
spent_by false h budget w = finished h w.opened w.best

abbrev pub within : Hall → ℕ → Walked → Answer
within h budget w = spent_by (ltb budget w.opened) h budget w

abbrev pub answer_read : ℕ → Read Hall → Answer
answer_read budget (bad f i) = refused f i
answer_read budget (got h i) = within h budget (walk_hall h)

-- the answer to a sheet, under a budget, for a plan room of so many bytes
unfoldable pub answer : List ℤ → ℕ → ℕ → Answer
answer ws budget room = answer_read budget (decode room ws)

-- "Code" and "Returned", in the table's order
abbrev pub numbers : Answer → List ℕ
numbers (least cost held opened p) = 0 ∷ cost ∷ held ∷ opened ∷ []
numbers (none opened) = 1 ∷ opened ∷ []
numbers (spent opened) = 2 ∷ opened ∷ []
numbers (refused f place) = refusal_numbers f place

-- the nodes opened; a refusal opens none
abbrev pub nodes_of : Answer → ℕ
nodes_of (least cost held opened p) = opened
nodes_of (none opened) = opened
nodes_of (spent opened) = opened
nodes_of (refused f place) = 0

-- the sheet was refused or searched to its end: any answer but spent
abbrev pub Finished : Answer → Type 0
Finished (least cost held opened p) = Unit {0}
Finished (none opened) = Unit {0}
Finished (spent opened) = ⊥
Finished (refused f place) = Unit {0}

-- "Plan room afterwards": "first n bytes: 0 free, 1 held at 1, 2 held at 0; the rest unchanged", else "unchanged"
abbrev pub room_after : Answer → List ℕ → List ℕ
room_after (least cost held opened p) room = in_front p room
room_after (none opened) room = room
room_after (spent opened) room = room
room_after (refused f place) room = room
