-- Leaving out the rules that name both positions of a device, in the arrays in which they lie. 02, request 3.
--
-- In order: the code of the opposite entry; the test of one rule; moving its codes; what `leave_out` asks and leaves. Definitions only.
use Rattle.std.specs.Prelude.{◌≡◌, Bool, List, ℕ, ◌+◌, ◌-◌, ◌/◌, ◌≤◌, ◌<◌, length, get_or}
use Rattle.std.proofs.lemmas.List.Edits.{sets}
use Rattle.hall.specs.Hall.{opposite, names_both, leave_out}
use Rattle.hall.specs.Bound.{entries}
use Rattle.sheet.specs.Coded.{entry_of, entries_of, rules_of, Laid, entry_codes, starts_from}

-- r is the code of the other entry of the same device, and there is a stamp for it
pub record Opposes (code r : ℕ) : Type 0 where
  pub says : entry_of r ≡ opposite (entry_of code)
  pub within : r < 400

-- codes of at most 200 devices stand from one place to another, there is a stamp for each code, and all stamps are of rules before
-- this one
pub record Stampable (codes : List ℕ) (from end rule : ℕ) (stamps : List ℕ) : Type 0 where
  pub upto : from ≤ end
  pub within : end ≤ length codes
  pub named : (i : ℕ) → from ≤ i → i < end → get_or codes i 0 / 2 < 200
  pub room : 400 ≤ length stamps
  pub earlier : (c : ℕ) → get_or stamps c 0 < rule

-- whether these codes name both positions of a device; afterwards no stamp is of a later rule
pub record Stamps (codes : List ℕ) (from end rule : ℕ) (r : Bool) (stamps' : List ℕ) : Type 0 where
  pub says : r ≡ names_both (entries_of codes from (end - from))
  pub earlier : (c : ℕ) → get_or stamps' c 0 ≤ rule

-- the codes from one place to another can move down to a third
pub record Movable (codes : List ℕ) (from end to : ℕ) : Type 0 where
  pub upto : from ≤ end
  pub within : end ≤ length codes
  pub down : to ≤ from

-- they are stored from there on, and r is the place behind them
pub record Moves (codes : List ℕ) (from end to r : ℕ) (codes' : List ℕ) : Type 0 where
  pub behind : r ≡ to + (end - from)
  pub moved : codes' ≡ sets codes to (entry_codes (entries_of codes from (end - from)))

-- m rules of at most 200 devices lie in the arrays, from the first place on
pub record Leavable (codes starts : List ℕ) (m : ℕ) : Type 0 where
  pub laid : Laid 200 codes starts m
  pub first : get_or starts 0 0 ≡ 0
  pub short : get_or starts m 0 ≤ 16384
  pub count : m ≤ 2000
  pub room : m < length starts

-- the rules that are left are so many, and are stored in front, in their order
pub record LeavesOut (codes starts : List ℕ) (m left : ℕ) (codes' starts' : List ℕ) : Type 0 where
  pub number : left ≡ length (leave_out (rules_of codes starts 0 m))
  pub codes_left : codes' ≡ sets codes 0 (entry_codes (entries (leave_out (rules_of codes starts 0 m))))
  pub starts_left : starts' ≡ sets starts 0 (starts_from 0 (leave_out (rules_of codes starts 0 m)))
