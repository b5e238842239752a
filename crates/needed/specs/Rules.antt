-- The hall that a value of `Coded` is, and the contract of `rule`: the codes of one of its rules.
--
-- In order: the hall; the codes of rule r. Definitions only.
use Rattle.std.specs.Prelude.{◌≡◌, List, [], ℕ, ◌/◌, ◌≤◌, ◌<◌, length, map}
use Rattle.lists.specs.Lists.{Each}
use Rattle.hall.specs.Hall.{Hall}
use Rattle.sheet.specs.Coded.{entry_of, rule_of, hall_of}
use Rattle.needed.specs.declared.coded.Coded.{Coded}

abbrev pub hall_in : Coded → Hall
hall_in h = hall_of h.costs.now h.codes.now h.starts.now h.rules

-- they stand for the entries of the rule, name devices of the hall, and are at most 32; there is none behind the last rule
pub record IsRule (h : Coded) (r : ℕ) (codes : List ℕ) : Type 0 where
  pub says : r < h.rules → map entry_of codes ≡ rule_of h.codes.now h.starts.now r
  pub named : Each (λ c. c / 2 < length h.costs.now) codes
  pub narrow : length codes ≤ 32
  pub none : h.rules ≤ r → codes ≡ []
