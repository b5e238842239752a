-- Lists: each element has a property; an element stands in a list; a list in front of a room.
--
-- Definitions only.
use Rattle.std.specs.Prelude.{List, [], ◌∷◌, ◌++◌, length, drop}

-- each element of a list has a property
abbrev pub Each : {A : Type 0} → (A → Type 0) → List A → Type 0
Each P [] = Unit {0}
Each P (a ∷ l) = P a × Each P l

-- an element stands in a list
pub data In {A : Type 0} (a : A) : List A → Type 0 where
  first : {l : List A} → In a (a ∷ l)
  later : {b : A} {l : List A} → In a l → In a (b ∷ l)

-- 01: "first n bytes ..; the rest unchanged", "the first w words are the tokens' values, the rest is unchanged": a list stands in
-- front of a lent room, and the rest of the room is as it was
abbrev pub in_front : {A : Type 0} → List A → List A → List A
in_front front room = front ++ drop (length front) room
