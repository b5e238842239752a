-- Bytes in a lent room: how many have place there, the room after they were put, and a reply in front of its room.
--
-- In order: how many of some bytes have place; the contract of every function that puts bytes, and of those that put a line;
-- lines in front of a room in which they have place, as the programs' functions promise them. Definitions only.
use Rattle.std.specs.Prelude.{◌≡◌, List, ℕ, ◌+◌, ◌-◌, ◌*◌, ◌≤◌, min, length, take, drop}
use Rattle.std.proofs.lemmas.List.Edits.{sets}
use Rattle.lists.specs.Lists.{in_front}
use Rattle.typed.specs.Printing.{digits_of}
use Rattle.printing.specs.declared.Page.{Page}
use Rattle.printing.specs.Lines.{line, refused_line}

-- the smaller of the number of bytes and what is left of the room from a place on
abbrev pub stored : (bytes at room : ℕ) → ℕ
stored bytes at room = min bytes (room - at)

-- bytes were stored in a room from a place on: each byte that has place there is stored, the others are left out; r is the place
-- behind the last that was stored. `sets` leaves out a store behind the room's end
pub record Stores (bytes : List ℕ) (at : ℕ) (before : List ℕ) (r : ℕ) (after : List ℕ) : Type 0 where
  pub ends : r ≡ at + stored (length bytes) at (length before)
  pub leaves : after ≡ sets before at bytes

-- bytes were put on a page, which is the same room as before: they were stored from its place on, and its place is behind them
pub record Puts (bytes : List ℕ) (before after : Page) : Type 0 where
  pub same : after.room.ghost_name ≡ before.room.ghost_name
  pub stores : Stores bytes before.at before.room.now after.at after.room.now

-- a line of a word and numbers was put so; and how long it is at most, whatever the numbers are: a blank and 20 digits for each
pub record PutsLine (word numbers : List ℕ) (before after : Page) : Type 0 where
  pub puts : Puts (line word digits_of numbers) before after
  pub short : length (line word digits_of numbers) ≤ length word + 21 * length numbers + 1

-- the line of a refusal was stored so at the front of a room; it has at most three numbers, and so at most 71 bytes
pub record PrintsRefused (numbers before : List ℕ) (r : ℕ) (after : List ℕ) : Type 0 where
  pub stores : Stores (refused_line numbers) 0 before r after
  pub short : length (refused_line numbers) ≤ 71

-- lines stand in front of a room of so many bytes: r is their length, which always fits; they are the room's first r bytes, and
-- the rest is as it was
pub record InRoom (size : ℕ) (lines before : List ℕ) (r : ℕ) (after : List ℕ) : Type 0 where
  pub size_is : length before ≡ size
  pub says : r ≡ length lines
  pub fits : r ≤ size
  pub room : after ≡ in_front lines before
  pub front : take r after ≡ lines
  pub rest : drop r after ≡ drop r before
