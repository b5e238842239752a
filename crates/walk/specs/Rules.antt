-- The rule test. 01, "The walk", step 3: "take the first rule that is not met".
--
-- In order: the codes of a rule; what the test finds, whichever way a rule's entries are read. Definitions only.
use Rattle.std.specs.Prelude.{◌≡◌, true, false, List, ℕ, ◌/◌, ◌≤◌, ◌<◌, length, map, Option, MatchOption}
use Rattle.std.specs.Borrow.{Bor}
use Rattle.std.specs.List.{All}
use Rattle.hall.specs.Hall.{Hall, Plan, meets_all, first_unmet}
use Rattle.sheet.specs.Coded.{entry_of}

-- codes of devices below n, no more than a rule may have
pub record Entries (n : ℕ) (codes : List ℕ) : Type 0 where
  pub narrow : length codes ≤ 32
  pub named : All (λ c. c / 2 < n) codes

-- these are the codes of the first rule that the plan does not meet
pub record UnmetAt (h : Hall) (p : Plan) (codes : List ℕ) : Type 0 where
  pub unmet : meets_all p h.rules ≡ false
  pub first : first_unmet p h.rules ≡ map entry_of codes
  pub entries : Entries (length p) codes

-- or the plan meets all rules
abbrev pub FirstUnmet : Hall → Plan → Option (Bor (List ℕ)) → Type 0
FirstUnmet h p r = MatchOption r (meets_all p h.rules ≡ true) (λ rule. UnmetAt h p rule.now)
