-- Sheets with known lists of least plans. 02, request 5; rows of our own.
--
-- In order: what a row says and what the definitions say for it; which plans are listed, and in which order; the budget and the room;
-- none, and bad sheets; the bytes of the room afterwards; 256 plans, and 257. Definitions only; that the rows are right is
-- proofs/AnswerTables.
use Rattle.std.specs.Prelude.{List, [], ◌∷◌, map, ℕ, length, replicate, ℤ}
use Rattle.lists.specs.Words.{+, -}
use Rattle.hall.specs.Hall.{at1, at0, Rule, Plan}
use Rattle.hall.specs.Order.{held_entries}
use Rattle.hall.specs.Ranges.{words_of, entry_words, words}
use Rattle.hall.specs.Table.{four_devices}
use Rattle.hall.specs.Listing.{Listing, listed, none, spent, refused, short, listing, list_numbers, list_room_after}

-- a list as `ties` writes it: the code and what is returned, then the entries of each plan, behind a `hold` each
pub record WrittenList : Type 0 where
  pub told : List ℕ
  pub holds : List (List ℤ)

pub record TiesRow : Type 0 where
  pub sheet : List ℤ
  pub budget : ℕ
  pub room : ℕ
  pub expected : WrittenList

abbrev pub holding_each : Listing → List (List ℤ)
holding_each (listed cost held opened ps) = map (λ (p : Plan). words_of entry_words (held_entries p)) ps
holding_each (none opened) = []
holding_each (spent opened) = []
holding_each (refused f place) = []
holding_each (short place) = []

-- what the definitions say for a row
unfoldable pub written_list : TiesRow → WrittenList
written_list r = let a = listing r.sheet r.budget r.room in record { told = list_numbers a; holds = holding_each a }

-- a budget of 1,000 and a room of 200 bytes unless named
abbrev pub list_under : ℕ → ℕ → List ℤ → List ℕ → List (List ℤ) → TiesRow
list_under budget room sheet told holds = record { sheet = sheet; budget = budget; room = room; expected = record { told = told; holds = holds } }

abbrev pub list_row : List ℤ → List ℕ → List (List ℤ) → TiesRow
list_row = list_under 1000 200

-- 01's sheet "2, 3, 3, 1, 2, 2, 1": device 2 alone, then device 1 alone
abbrev pub either_one : List ℤ
either_one = + 2 ∷ + 3 ∷ + 3 ∷ + 1 ∷ + 2 ∷ + 2 ∷ + 1 ∷ []

-- which plans are listed, and in which order
unfoldable pub tied : List TiesRow
tied =
    -- nothing to hold: one plan, of no device; of one device
    list_row (+ 0 ∷ + 0 ∷ []) (0 ∷ 0 ∷ 0 ∷ 1 ∷ 1 ∷ []) ([] ∷ [])
    ∷ list_row (+ 1 ∷ + 5 ∷ + 0 ∷ []) (0 ∷ 0 ∷ 0 ∷ 1 ∷ 1 ∷ []) ([] ∷ [])
    -- 01's four-device sheet: of three devices only 2, 3 and 4 cost 9, and the rules leave each of them one position
    ∷ list_row four_devices (0 ∷ 9 ∷ 3 ∷ 1 ∷ 10 ∷ []) ((+ 2 ∷ + 3 ∷ + 4 ∷ []) ∷ [])
    -- two plans, each opened once, and in the other order
    ∷ list_row either_one (0 ∷ 3 ∷ 1 ∷ 2 ∷ 3 ∷ []) ((+ 2 ∷ []) ∷ (+ 1 ∷ []) ∷ [])
    ∷ list_row (+ 2 ∷ + 3 ∷ + 3 ∷ + 1 ∷ + 2 ∷ + 1 ∷ + 2 ∷ []) (0 ∷ 3 ∷ 1 ∷ 2 ∷ 3 ∷ []) ((+ 2 ∷ []) ∷ (+ 1 ∷ []) ∷ [])
    -- a repeated entry opens its plan again: each is listed once
    ∷ list_row (+ 1 ∷ + 4 ∷ + 1 ∷ + 2 ∷ + 1 ∷ + 1 ∷ []) (0 ∷ 4 ∷ 1 ∷ 1 ∷ 3 ∷ []) ((+ 1 ∷ []) ∷ [])
    ∷ list_row (+ 2 ∷ + 3 ∷ + 3 ∷ + 1 ∷ + 4 ∷ + 1 ∷ + 2 ∷ + 2 ∷ + 1 ∷ []) (0 ∷ 3 ∷ 1 ∷ 2 ∷ 5 ∷ []) ((+ 2 ∷ []) ∷ (+ 1 ∷ []) ∷ [])
    -- rules 1 2; 2 3; 1 3: devices 1 and 2 are opened by two routes
    ∷ list_row (+ 3 ∷ + 1 ∷ + 1 ∷ + 1 ∷ + 3 ∷ + 2 ∷ + 1 ∷ + 2 ∷ + 2 ∷ + 2 ∷ + 3 ∷ + 2 ∷ + 1 ∷ + 3 ∷ []) (0 ∷ 2 ∷ 2 ∷ 3 ∷ 7 ∷ []) ((+ 2 ∷ + 3 ∷ []) ∷ (+ 1 ∷ + 3 ∷ []) ∷ (+ 1 ∷ + 2 ∷ []) ∷ [])
    -- rules -2 1; 2 -1: the same devices in other positions, the worse plan opened first
    ∷ list_row (+ 2 ∷ + 1 ∷ + 1 ∷ + 2 ∷ + 2 ∷ - 2 ∷ + 1 ∷ + 2 ∷ + 2 ∷ - 1 ∷ []) (0 ∷ 2 ∷ 2 ∷ 2 ∷ 5 ∷ []) ((+ 1 ∷ + 2 ∷ []) ∷ (- 1 ∷ - 2 ∷ []) ∷ [])
    -- the same cost, but more devices held: devices 2 and 3, opened after the least plan; two such plans before it, at cost 0
    ∷ list_row (+ 3 ∷ + 2 ∷ + 1 ∷ + 1 ∷ + 2 ∷ + 2 ∷ + 1 ∷ + 2 ∷ + 2 ∷ + 1 ∷ + 3 ∷ []) (0 ∷ 2 ∷ 1 ∷ 1 ∷ 5 ∷ []) ((+ 1 ∷ []) ∷ [])
    ∷ list_row (+ 3 ∷ + 0 ∷ + 0 ∷ + 0 ∷ + 2 ∷ + 2 ∷ + 2 ∷ + 1 ∷ + 2 ∷ + 3 ∷ + 1 ∷ []) (0 ∷ 0 ∷ 1 ∷ 1 ∷ 5 ∷ []) ((+ 1 ∷ []) ∷ [])
    -- zero costs: a hold that no rule asks for is not listed; a tie is
    ∷ list_row (+ 2 ∷ + 0 ∷ + 0 ∷ + 1 ∷ + 1 ∷ + 1 ∷ []) (0 ∷ 0 ∷ 1 ∷ 1 ∷ 2 ∷ []) ((+ 1 ∷ []) ∷ [])
    ∷ list_row (+ 2 ∷ + 0 ∷ + 0 ∷ + 1 ∷ + 2 ∷ + 1 ∷ + 2 ∷ []) (0 ∷ 0 ∷ 1 ∷ 2 ∷ 3 ∷ []) ((+ 2 ∷ []) ∷ (+ 1 ∷ []) ∷ [])
    -- a rule that names both positions, alone and beside another
    ∷ list_row (+ 1 ∷ + 4 ∷ + 1 ∷ + 2 ∷ - 1 ∷ + 1 ∷ []) (0 ∷ 0 ∷ 0 ∷ 1 ∷ 1 ∷ []) ([] ∷ [])
    ∷ list_row (+ 3 ∷ + 1 ∷ + 1 ∷ + 1 ∷ + 2 ∷ + 2 ∷ + 1 ∷ - 1 ∷ + 2 ∷ + 2 ∷ + 3 ∷ []) (0 ∷ 1 ∷ 1 ∷ 2 ∷ 3 ∷ []) ((+ 3 ∷ []) ∷ (+ 2 ∷ []) ∷ [])
    -- five plans of seven devices
    ∷ list_row
    (+ 7 ∷ + 1 ∷ + 1 ∷ + 1 ∷ + 1 ∷ + 1 ∷ + 1 ∷ + 1 ∷ + 4 ∷ + 3 ∷ - 2 ∷ - 4 ∷ + 7 ∷ + 3 ∷ - 3 ∷ + 7 ∷ + 1 ∷ + 1 ∷ - 1 ∷ + 3 ∷ + 2 ∷ - 3 ∷ + 4 ∷ [])
    (0 ∷ 3 ∷ 3 ∷ 5 ∷ 18 ∷ [])
    ((- 1 ∷ + 4 ∷ + 7 ∷ []) ∷ (- 1 ∷ - 3 ∷ + 7 ∷ []) ∷ (- 1 ∷ - 3 ∷ - 4 ∷ []) ∷ (- 1 ∷ + 2 ∷ + 7 ∷ []) ∷ (- 1 ∷ - 2 ∷ - 3 ∷ []) ∷ [])
    ∷ []

-- the budget and the room
unfoldable pub limited : List TiesRow
limited =
    -- a budget of exactly the nodes that the walk opens, and of one less
    list_under 3 200 either_one (0 ∷ 3 ∷ 1 ∷ 2 ∷ 3 ∷ []) ((+ 2 ∷ []) ∷ (+ 1 ∷ []) ∷ [])
    ∷ list_under 2 200 either_one (2 ∷ 2 ∷ []) []
    -- a room of exactly the bytes of the plans, of one less, of one plan's, and of none
    ∷ list_under 1000 4 either_one (0 ∷ 3 ∷ 1 ∷ 2 ∷ 3 ∷ []) ((+ 2 ∷ []) ∷ (+ 1 ∷ []) ∷ [])
    ∷ list_under 1000 3 either_one (51 ∷ 3 ∷ []) []
    ∷ list_under 1000 2 either_one (51 ∷ 2 ∷ []) []
    ∷ list_under 1000 0 either_one (51 ∷ 0 ∷ []) []
    -- a room shorter than n: 51, and not 16, where there is a plan
    ∷ list_under 1000 3 four_devices (51 ∷ 3 ∷ []) []
    ∷ list_under 1000 0 (+ 1 ∷ + 5 ∷ + 0 ∷ []) (51 ∷ 0 ∷ []) []
    -- of no device: a plan of 0 bytes, for which a room of 0 bytes is enough
    ∷ list_under 1000 0 (+ 0 ∷ + 0 ∷ []) (0 ∷ 0 ∷ 0 ∷ 1 ∷ 1 ∷ []) ([] ∷ [])
    -- ""spent" comes before 51"
    ∷ list_under 2 0 either_one (2 ∷ 2 ∷ []) []
    ∷ list_under 0 0 (+ 1 ∷ + 5 ∷ + 0 ∷ []) (2 ∷ 0 ∷ []) []
    ∷ list_under 0 0 (+ 0 ∷ + 0 ∷ []) (2 ∷ 0 ∷ []) []
    ∷ []

-- none, and bad sheets: whatever the room, and the bad ones whatever the budget
unfoldable pub unlisted : List TiesRow
unlisted =
    list_row (+ 0 ∷ + 1 ∷ + 0 ∷ []) (1 ∷ 1 ∷ []) []
    ∷ list_under 2 0 (+ 1 ∷ + 4 ∷ + 2 ∷ + 1 ∷ + 1 ∷ + 1 ∷ - 1 ∷ []) (1 ∷ 2 ∷ []) []
    ∷ list_under 1 0 (+ 1 ∷ + 4 ∷ + 2 ∷ + 1 ∷ + 1 ∷ + 1 ∷ - 1 ∷ []) (2 ∷ 1 ∷ []) []
    ∷ list_under 0 0 [] (11 ∷ 0 ∷ []) []
    ∷ list_under 0 0 (+ 201 ∷ []) (12 ∷ 0 ∷ []) []
    ∷ list_under 0 0 (+ 1 ∷ + 5 ∷ + 1 ∷ + 1 ∷ + 2 ∷ []) (14 ∷ 4 ∷ []) []
    ∷ list_under 0 0 (+ 1 ∷ + 5 ∷ + 0 ∷ + 7 ∷ []) (15 ∷ 3 ∷ []) []
    ∷ list_under 0 0 (+ 1 ∷ + 5 ∷ + 1 ∷ + 33 ∷ []) (19 ∷ 3 ∷ 1 ∷ []) []
    ∷ list_row (+ 1 ∷ + 5 ∷ + 4 ∷ + 0 ∷ + 2 ∷ + 1 ∷ - 1 ∷ + 33 ∷ []) (19 ∷ 7 ∷ 3 ∷ []) []
    ∷ []

-- the bytes of the room afterwards, under a budget of 1,000
pub record RoomRow : Type 0 where
  pub sheet : List ℤ
  pub room : List ℕ
  pub expected : List ℕ

abbrev pub room_row : List ℤ → List ℕ → List ℕ → RoomRow
room_row sheet room expected = record { sheet = sheet; room = room; expected = expected }

unfoldable pub left_in : RoomRow → List ℕ
left_in r = list_room_after (listing r.sheet 1000 (length r.room)) r.room

unfoldable pub rooms : List RoomRow
rooms =
    -- one plan behind the other, and the rest as it was
    room_row either_one (9 ∷ 8 ∷ 7 ∷ 6 ∷ 5 ∷ 4 ∷ []) (0 ∷ 1 ∷ 1 ∷ 0 ∷ 5 ∷ 4 ∷ [])
    -- room for both and no more; a byte less
    ∷ room_row either_one (9 ∷ 8 ∷ 7 ∷ 6 ∷ []) (0 ∷ 1 ∷ 1 ∷ 0 ∷ [])
    ∷ room_row either_one (9 ∷ 8 ∷ 7 ∷ []) (9 ∷ 8 ∷ 7 ∷ [])
    -- held at 0, in front of a byte that stays
    ∷ room_row (+ 2 ∷ + 1 ∷ + 1 ∷ + 2 ∷ + 2 ∷ - 2 ∷ + 1 ∷ + 2 ∷ + 2 ∷ - 1 ∷ []) (9 ∷ 8 ∷ 7 ∷ 6 ∷ 5 ∷ []) (1 ∷ 1 ∷ 2 ∷ 2 ∷ 5 ∷ [])
    -- a plan of 0 bytes; none; a bad sheet
    ∷ room_row (+ 0 ∷ + 0 ∷ []) (9 ∷ 8 ∷ []) (9 ∷ 8 ∷ [])
    ∷ room_row (+ 0 ∷ + 1 ∷ + 0 ∷ []) (9 ∷ 8 ∷ []) (9 ∷ 8 ∷ [])
    ∷ room_row (+ 201 ∷ []) (9 ∷ 8 ∷ []) (9 ∷ 8 ∷ [])
    ∷ []

-- 256 plans, and 257: four rules of four devices each, no device in two of them
abbrev pub fours : List Rule
fours =
    (at1 3 ∷ at1 2 ∷ at1 1 ∷ at1 0 ∷ [])
    ∷ (at1 7 ∷ at1 6 ∷ at1 5 ∷ at1 4 ∷ [])
    ∷ (at1 11 ∷ at1 10 ∷ at1 9 ∷ at1 8 ∷ [])
    ∷ (at1 15 ∷ at1 14 ∷ at1 13 ∷ at1 12 ∷ [])
    ∷ []

-- the same with device 17 at 0; or device 17 at 1, and with it the devices 18 to 21
abbrev pub fours_or_one : List Rule
fours_or_one =
    (at0 16 ∷ at1 17 ∷ []) ∷ (at0 16 ∷ at1 18 ∷ []) ∷ (at0 16 ∷ at1 19 ∷ []) ∷ (at0 16 ∷ at1 20 ∷ []) ∷ map (λ (r : Rule). at1 16 ∷ r) fours

-- their numbers, without the plans
abbrev pub many_row : (devices : ℕ) → List Rule → List ℕ → TiesRow
many_row devices rs told = list_under 1000 51200 (words (record { costs = replicate devices 1; rules = rs })) told []

unfoldable pub many : List TiesRow
many = many_row 16 fours (0 ∷ 4 ∷ 4 ∷ 256 ∷ 341 ∷ []) ∷ many_row 21 fours_or_one (51 ∷ 51200 ∷ []) ∷ []
