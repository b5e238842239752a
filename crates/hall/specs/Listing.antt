-- The list of the least plans of a sheet under a budget: the answer, this paper's numbers for it, the room afterwards, and what it
-- promises. 02, request 5.
--
-- In order: the answer's cases; a finished walk; the budget; the whole; its numbers; the room; the list as a claim about plans, whatever
-- walks; each case of the answer as a claim. The cases that are the search's speak of a plan room of 200 bytes, which is never too
-- short. Definitions only.
use Rattle.std.specs.Prelude.{◌≡◌, ◌⊎◌, Bool, true, false, ◌&&◌, List, [], ◌∷◌, ℕ, ◌≤◌, ◌<◌, length, ℤ, ltb, leb}
use Rattle.lists.specs.Lists.{In, in_front}
use Rattle.hall.specs.Hall.{Hall, Plan}
use Rattle.hall.specs.Order.{cost_of, held_of, better}
use Rattle.hall.specs.Settings.{Satisfies}
use Rattle.hall.specs.Walk.{Best, none_yet, so_far, Walked, walk_hall}
use Rattle.hall.specs.Reading.{Fault, refusal_numbers, Read, bad, got, decode}
use Rattle.hall.specs.Due.{Reason}
use Rattle.hall.specs.Ties.{equal_to, joined}
use Rattle.hall.specs.Demands.{SaysLeast, SaysNone, SaysSpent}

-- "the answer gives cost, held number, the number of plans and nodes opened", here with the plans themselves; none, spent and the
-- sheet's refusals are the search's; 51 is `short`
pub data Listing : Type 0 where
  listed : (cost held opened : ℕ) → List Plan → Listing
  none : (opened : ℕ) → Listing
  spent : (opened : ℕ) → Listing
  refused : Fault → (place : ℕ) → Listing
  short : (place : ℕ) → Listing

-- "51 exactly where the least plans need more bytes than the room has, or are more than 256"
unfoldable pub fits : (room : ℕ) → List Plan → Bool
fits room ps = leb (length ps) 256 && leb (length (joined ps)) room

-- "its place the room's length"
abbrev pub listed_by : Bool → (room cost held opened : ℕ) → List Plan → Listing
listed_by true room cost held opened ps = listed cost held opened ps
listed_by false room cost held opened ps = short room

-- of a walk that was finished: ""spent" comes before 51"
abbrev pub finished_list : Hall → (room opened : ℕ) → Best → Listing
finished_list h room opened none_yet = none opened
finished_list h room opened (so_far p) = listed_by (fits room (equal_to h p)) room (cost_of h.costs p) (held_of p) opened (equal_to h p)

-- "The walk, its budget and its count are 01's"
abbrev pub list_spent_by : Bool → Hall → (budget room : ℕ) → Walked → Listing
list_spent_by true h budget room w = spent budget
list_spent_by false h budget room w = finished_list h room w.opened w.best

abbrev pub list_within : Hall → (budget room : ℕ) → Walked → Listing
list_within h budget room w = list_spent_by (ltb budget w.opened) h budget room w

abbrev pub list_read : (budget room : ℕ) → Read Hall → Listing
list_read budget room (bad f i) = refused f i
list_read budget room (got h i) = list_within h budget room (walk_hall h)

-- the list for a sheet, under a budget, for a room of so many bytes: "after 16, which isn't given here"
unfoldable pub listing : List ℤ → (budget room : ℕ) → Listing
listing ws budget room = list_read budget room (decode 200 ws)

abbrev pub list_numbers : Listing → List ℕ
list_numbers (listed cost held opened ps) = 0 ∷ cost ∷ held ∷ length ps ∷ opened ∷ []
list_numbers (none opened) = 1 ∷ opened ∷ []
list_numbers (spent opened) = 2 ∷ opened ∷ []
list_numbers (refused f place) = refusal_numbers f place
list_numbers (short place) = 51 ∷ place ∷ []

-- "They go into a lent room, each plan written into the part behind the last one, the rest unchanged"; "both, and "none", leave the room
-- unchanged"
abbrev pub list_room_after : Listing → List ℕ → List ℕ
list_room_after (listed cost held opened ps) room = in_front (joined ps) room
list_room_after (none opened) room = room
list_room_after (spent opened) room = room
list_room_after (refused f place) room = room
list_room_after (short place) room = room

-- ── what it promises ──
-- each plan is strictly better than the next
abbrev pub Ranked : List ℕ → List Plan → Type 0
Ranked cs [] = Unit {0}
Ranked cs (p ∷ []) = Unit {0}
Ranked cs (p ∷ q ∷ ps) = (better cs p q ≡ true) × Ranked cs (q ∷ ps)

-- "all that equal the least one in cost and held number, best first by 01's order, each once and none left out", for each meaning of
-- "meet"
pub record AllTies (Meets : Hall → Plan → Type 0) (h : Hall) (p : Plan) (ps : List Plan) : Type 0 where
  pub every : (q : Plan) → Meets h q → cost_of h.costs q ≡ cost_of h.costs p → held_of q ≡ held_of p → In q ps
  pub only : (q : Plan) → In q ps → Meets h q × (cost_of h.costs q ≡ cost_of h.costs p) × (held_of q ≡ held_of p)
  pub ranked : Ranked h.costs ps

-- code 0: the least plan with its cost, held number and count, as the search says it; and all its ties, which are few enough
pub record SaysListed (ws : List ℤ) (budget room cost held opened : ℕ) (ps : List Plan) : Type 0 where
  pub plan : Plan
  pub least : SaysLeast ws budget 200 cost held opened plan
  pub list : AllTies Satisfies least.hall plan ps
  pub few : length ps ≤ 256
  pub fit : length (joined ps) ≤ room

-- code 51: there is a least plan, which the search would say, and its ties are too many, or too long for the room
pub record SaysShort (ws : List ℤ) (budget room place : ℕ) : Type 0 where
  pub plan : Plan
  pub cost : ℕ
  pub held : ℕ
  pub opened : ℕ
  pub least : SaysLeast ws budget 200 cost held opened plan
  pub plans : List Plan
  pub list : AllTies Satisfies least.hall plan plans
  pub over : (256 < length plans) ⊎ (room < length (joined plans))
  pub at_end : place ≡ room

abbrev pub Lists : List ℤ → (budget room : ℕ) → Listing → Type 0
Lists ws budget room (listed cost held opened ps) = SaysListed ws budget room cost held opened ps
Lists ws budget room (none opened) = SaysNone ws budget 200 opened
Lists ws budget room (spent opened) = SaysSpent ws budget 200 opened
Lists ws budget room (refused f place) = Reason f place ws 200
Lists ws budget room (short place) = SaysShort ws budget room place
