-- The contract of `read`: this paper's numbers for each case, and the lent arrays afterwards.
--
-- In order: a reading without the rules that every plan meets; the arrays; the contract. Definitions only.
use Rattle.std.specs.Prelude.{◌≡◌, List, ℕ, ℤ, Result}
use Rattle.lists.specs.Lists.{in_front}
use Rattle.hall.specs.Hall.{Hall, without}
use Rattle.hall.specs.Bound.{entries}
use Rattle.hall.specs.Reading.{Read, bad, got, decode}
use Rattle.sheet.specs.Coded.{entry_codes, starts_from}
use Rattle.sheet.specs.Contract.{numbers_of, numbers_read, Kept, Holds}
use Rattle.refusals.specs.declared.Refusal.{Refusal}
use Rattle.refusals.specs.declared.Refused.{Refused}
use Rattle.sheet.specs.declared.Size.{Size}

-- 02, request 3: a rule that names both positions of a device is met by every plan, and left out
abbrev pub needed_of : Read Hall → Read Hall
needed_of (bad f i) = bad f i
needed_of (got h j) = got (without h) j

-- the arrays afterwards: unchanged on a refusal; else the whole hall is written in front, and then the hall without those rules
abbrev pub ArraysLeft : Read Hall → (costs codes starts costs' codes' starts' : List ℕ) → Type 0
ArraysLeft (bad f i) costs codes starts costs' codes' starts' = Kept costs codes starts costs' codes' starts'
ArraysLeft (got h j) costs codes starts costs' codes' starts' =
    Holds (without h) costs (in_front (entry_codes (entries h.rules)) codes) (in_front (starts_from 0 h.rules) starts) costs' codes' starts'

pub record ReadsNeeded (ws : List ℤ) (room : ℕ) (costs codes starts : List ℕ) (r : Result Size (Refused Refusal)) (costs' codes' starts' : List ℕ) : Type 0 where
  -- 0 and the numbers of devices and of rules left, or those of the refusal
  pub says : numbers_of r ≡ numbers_read (needed_of (decode room ws))
  pub arrays : ArraysLeft (decode room ws) costs codes starts costs' codes' starts'
