-- How a hall lies in the coded arrays, and how it is read back.
--
-- In order: an entry as a code; a rule, by its start and the next one; all rules; the hall (`hall_of`); what holds of arrays in which
-- a hall lies (`Laid`); the other way round, what the arrays hold of a hall (`entry_codes`, `starts_from`). Definitions only.
use Rattle.std.specs.Prelude.{List, [], ◌∷◌, ℕ, zero, suc, ◌+◌, ◌-◌, ◌/◌, ◌%◌, ◌≤◌, ◌<◌, length, get_or}
use Rattle.hall.specs.Hall.{Entry, at1, at0, Rule, Hall}

-- a code is twice the device, and one more where the device is kept at position 0
abbrev pub entry_from : ℕ → ℕ → Entry
entry_from zero v = at1 v
entry_from (suc odd) v = at0 v

unfoldable pub entry_of : ℕ → Entry
entry_of code = entry_from (code % 2) (code / 2)

-- the entries of so many codes from a place on
unfoldable pub entries_of : List ℕ → ℕ → ℕ → Rule
entries_of codes at zero = []
entries_of codes at (suc left) = entry_of (get_or codes at 0) ∷ entries_of codes (at + 1) left

-- rule r is the codes from its start to the next rule's
abbrev pub rule_of : List ℕ → List ℕ → ℕ → Rule
rule_of codes starts r = entries_of codes (get_or starts r 0) (get_or starts (r + 1) 0 - get_or starts r 0)

-- so many rules from rule r on
unfoldable pub rules_of : List ℕ → List ℕ → ℕ → ℕ → List Rule
rules_of codes starts r zero = []
rules_of codes starts r (suc left) = rule_of codes starts r ∷ rules_of codes starts (r + 1) left

-- the hall of m rules that lies in the arrays; `costs` has one cost for each device
abbrev pub hall_of : List ℕ → List ℕ → List ℕ → ℕ → Hall
hall_of costs codes starts m = record { costs = costs; rules = rules_of codes starts 0 m }

-- a hall of n devices and m rules lies in the arrays: starts rise, every rule lies within the codes and is at most 32 wide, every
-- code names a device below n
pub record Laid (n : ℕ) (codes starts : List ℕ) (m : ℕ) : Type 0 where
  pub rise : (r : ℕ) → r < m → get_or starts r 0 ≤ get_or starts (r + 1) 0
  pub narrow : (r : ℕ) → r < m → get_or starts (r + 1) 0 ≤ get_or starts r 0 + 32
  pub within : (r : ℕ) → r < m → get_or starts (r + 1) 0 ≤ length codes
  pub named : (i : ℕ) → i < get_or starts m 0 → get_or codes i 0 / 2 < n

-- the code of an entry, the codes of entries
unfoldable pub entry_code : Entry → ℕ
entry_code (at1 v) = v + v
entry_code (at0 v) = v + v + 1

unfoldable pub entry_codes : List Entry → List ℕ
entry_codes [] = []
entry_codes (e ∷ es) = entry_code e ∷ entry_codes es

-- the starts of rules whose first entry has this place, and the place behind the last
unfoldable pub starts_from : ℕ → List Rule → List ℕ
starts_from at [] = at ∷ []
starts_from at (r ∷ rs) = at ∷ starts_from (at + length r) rs
