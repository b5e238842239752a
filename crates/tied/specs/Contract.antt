-- The contract of `least_plans`: this paper's numbers and the room, and what the list promises in its own words. 02, request 5.
--
-- In order: the kinds of refusal, and the numbers of a refusal and of an answer; an answer with its plans, as the definitions have it; how
-- many plans stand in the room; the contract. All but the first are of any code for a short room, which the type of a refusal has; that it
-- is 51 is what the contract says of the numbers. Definitions only.
use Rattle.std.specs.Prelude.{◌≡◌, List, [], ◌∷◌, ℕ, length, ℤ, Result, Ok, Err}
use Rattle.hall.specs.Hall.{Plan}
use Rattle.hall.specs.Due.{devices_on}
use Rattle.hall.specs.Listing as hall
use Rattle.hall.specs.Listing.{Listing, listing, list_numbers, list_room_after, Lists}
use Rattle.plans.specs.Runs.{plans_from}
use Rattle.refusals.specs.Contract.{fault_of}
use Rattle.refusals.specs.Rooms as rooms
use Rattle.refusals.specs.declared.Refused.{Refused}
use Rattle.refusals.specs.declared.RoomRefusal.{RoomRefusal}
use Rattle.refusals.specs.declared.RoomRefusal.TheVariants.{BadSheet, ShortRoom}
use Rattle.tied.specs.declared.Tied.{Tied}
use Rattle.tied.specs.declared.Tied.TheVariants.{Plans, None, Spent}

-- the sheet's kinds of refusal, or a room too short for the plans, or too many of them
abbrev pub Hindrance : Type 0
Hindrance = RoomRefusal 51

-- the numbers of a refusal: the sheet's own, or the code of its type, "its place the room's length"
abbrev pub hindrance_numbers : {code : ℕ} → RoomRefusal code → (place : ℕ) → List ℕ
hindrance_numbers kind place = rooms.numbers_of kind place

-- "the answer gives cost, held number, the number of plans and nodes opened", behind the code; else as 01's table has them
abbrev pub numbers_of : {code : ℕ} → Result Tied (Refused (RoomRefusal code)) → List ℕ
numbers_of (Ok (Plans cost held number opened)) = 0 ∷ cost ∷ held ∷ number ∷ opened ∷ []
numbers_of (Ok (None opened)) = 1 ∷ opened ∷ []
numbers_of (Ok (Spent opened)) = 2 ∷ opened ∷ []
numbers_of (Err e) = hindrance_numbers e.kind e.place

-- an answer as the definitions have it, with the plans that stand in the room
abbrev pub refused_by : {code : ℕ} → RoomRefusal code → (place : ℕ) → Listing
refused_by (BadSheet kind) place = hall.refused (fault_of kind) place
refused_by ShortRoom place = hall.short place

abbrev pub listing_of : {code : ℕ} → Result Tied (Refused (RoomRefusal code)) → List Plan → Listing
listing_of (Ok (Plans cost held number opened)) ps = hall.listed cost held opened ps
listing_of (Ok (None opened)) ps = hall.none opened
listing_of (Ok (Spent opened)) ps = hall.spent opened
listing_of (Err e) ps = refused_by e.kind e.place

-- how many plans stand in the room
abbrev pub number_of : {code : ℕ} → Result Tied (Refused (RoomRefusal code)) → ℕ
number_of (Ok (Plans cost held number opened)) = number
number_of (Ok (None opened)) = 0
number_of (Ok (Spent opened)) = 0
number_of (Err e) = 0

-- the plans that stand in the room: so many of n marks each, one behind the other, where n is the sheet's number of devices
abbrev pub plans_of : {code : ℕ} → List ℤ → Result Tied (Refused (RoomRefusal code)) → (room : List ℕ) → List Plan
plans_of ws r room = plans_from (number_of r) (devices_on ws) room

-- the contract: the sheet, the budget, the room before, the answer and the room afterwards
pub record ListsTies {code : ℕ} (ws : List ℤ) (budget : ℕ) (before : List ℕ) (r : Result Tied (Refused (RoomRefusal code))) (after : List ℕ) : Type 0 where
  -- the paper's numbers of the answer are the definition's for these words, this budget and this room's length: of a short room 51
  pub says : numbers_of r ≡ list_numbers (listing ws budget (length before))
  -- the room afterwards, for every case
  pub room : after ≡ list_room_after (listing ws budget (length before)) before
  -- what the list promises, as one claim (hall/specs/Listing): this is the list for the sheet, with the plans that now stand in the room.
  -- No other answer has it, and each case is given exactly where it holds (proofs/Only)
  pub claim : Lists ws budget (length before) (listing_of r (plans_of ws r after))
