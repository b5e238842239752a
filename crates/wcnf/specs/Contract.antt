-- The contract of `write`: this paper's numbers for each case, and the room afterwards. 02, request 4.
--
-- In order: the kinds of refusal, and the numbers of an answer and of what is written; the room; what an answer is given for, apart from
-- the writer; the contract of `write`. An answer has any code for a short room, which the type of its refusal has; that it is 41 is what
-- the contract says of the numbers. Definitions only.
use Rattle.std.specs.Prelude.{◌≡◌, List, [], ◌∷◌, ℕ, ◌<◌, length, take, ℤ, Result, Ok, Err}
use Rattle.std.proofs.Math.Option.{some}
use Rattle.lists.specs.Lists.{in_front}
use Rattle.hall.specs.Hall.{Hall}
use Rattle.hall.specs.Ranges.{SheetOf}
use Rattle.hall.specs.Reading.{refusal_numbers}
use Rattle.hall.specs.Due.{Reason}
use Rattle.refusals.specs.Contract.{fault_of}
use Rattle.refusals.specs.Rooms as rooms
use Rattle.refusals.specs.declared.Refused.{Refused}
use Rattle.refusals.specs.declared.RoomRefusal.{RoomRefusal}
use Rattle.refusals.specs.declared.RoomRefusal.TheVariants.{BadSheet, ShortRoom}
use Rattle.rails.specs.Rails.{clauses, variables, Encodes}
use Rattle.wcnf.specs.declared.Edition.{Edition}
use Rattle.wcnf.specs.Wcnf.{wcnf, Writing, text, bad_sheet, short_room, writing}
use Rattle.wcnf.specs.Format.{read_wcnf}

-- the sheet's kinds of refusal, or a text room too short
abbrev pub Obstacle : Type 0
Obstacle = RoomRefusal 41

-- the numbers of a refusal: the sheet's own, or the code of its type, "its place the length needed"
abbrev pub obstacle_numbers : {code : ℕ} → RoomRefusal code → (place : ℕ) → List ℕ
obstacle_numbers o place = rooms.numbers_of o place

-- the length of the text, or what is refused, and where
abbrev pub Written : Type 0
Written = Result ℕ (Refused Obstacle)

-- 0 and the length of the text, or the numbers of the refusal
abbrev pub numbers_of : {code : ℕ} → Result ℕ (Refused (RoomRefusal code)) → List ℕ
numbers_of (Ok w) = 0 ∷ w ∷ []
numbers_of (Err e) = obstacle_numbers e.kind e.place

abbrev pub numbers_written : Writing → List ℕ
numbers_written (text t) = 0 ∷ length t ∷ []
numbers_written (bad_sheet f place) = refusal_numbers f place
numbers_written (short_room needed) = 41 ∷ needed ∷ []

-- "The length is returned; the rest, and all on a refusal, is unchanged."
abbrev pub room_after : Writing → List ℕ → List ℕ
room_after (text t) room = in_front t room
room_after (bad_sheet f place) room = room
room_after (short_room needed) room = room

-- the first w bytes are a text of the edition that says the clauses of the sheet's hall, and these encode the hall: each setting
-- that meets the hard ones is a plan that meets the sheet, at the weight that it breaks, and each such plan is exactly one
-- setting
pub record TextWritten (ws : List ℤ) (edition : Edition) (w : ℕ) (after : List ℕ) : Type 0 where
  pub hall : Hall
  pub sheet : SheetOf hall ws 200
  pub says : read_wcnf edition (take w after) ≡ some (record { variables = variables hall; clauses = clauses hall })
  pub encodes : Encodes hall (clauses hall)

-- the text of the sheet's hall has more bytes than the room, and so many
pub record RoomShort (ws : List ℤ) (edition : Edition) (room place : ℕ) : Type 0 where
  pub hall : Hall
  pub sheet : SheetOf hall ws 200
  pub size : place ≡ length (wcnf edition hall)
  pub short : room < place

-- what an answer is given for
abbrev pub RefusedFor : {code : ℕ} → List ℤ → Edition → (room : ℕ) → RoomRefusal code → (place : ℕ) → Type 0
RefusedFor ws edition room (BadSheet kind) place = Reason (fault_of kind) place ws 200
RefusedFor ws edition room ShortRoom place = RoomShort ws edition room place

abbrev pub Justified : {code : ℕ} → List ℤ → Edition → (room : ℕ) → Result ℕ (Refused (RoomRefusal code)) → (after : List ℕ) → Type 0
Justified ws edition room (Ok w) after = TextWritten ws edition w after
Justified ws edition room (Err e) after = RefusedFor ws edition room e.kind e.place

-- the contract of `write`: the sheet, the edition, the room before, the answer and the room afterwards
pub record Writes {code : ℕ} (ws : List ℤ) (edition : Edition) (before : List ℕ) (r : Result ℕ (Refused (RoomRefusal code))) (after : List ℕ) : Type 0 where
  -- of a short room the numbers are 41 and the length needed
  pub says : numbers_of r ≡ numbers_written (writing edition ws (length before))
  pub room : after ≡ room_after (writing edition ws (length before)) before
  pub reason : Justified ws edition (length before) r after
