-- The contract of `read`: this paper's numbers for each case, and the lent arrays afterwards.
--
-- In order: the numbers of an answer and of a decoding; what the arrays hold; the contract. Definitions only.
use Rattle.std.specs.Prelude.{◌≡◌, List, [], ◌∷◌, ℕ, length, ℤ, Result, Ok, Err}
use Rattle.lists.specs.Lists.{in_front}
use Rattle.hall.specs.Hall.{Hall}
use Rattle.hall.specs.Bound.{entries}
use Rattle.hall.specs.Reading.{refusal_numbers, Read, bad, got, decode}
use Rattle.refusals.specs.Contract.{numbers_at}
use Rattle.refusals.specs.declared.Refusal.{Refusal}
use Rattle.refusals.specs.declared.Refused.{Refused}
use Rattle.sheet.specs.Coded.{entry_codes, starts_from}
use Rattle.sheet.specs.declared.Size.{Size}

-- the numbers of an answer: 0 and the numbers of devices and rules, or those of the refusal
abbrev pub numbers_of : Result Size (Refused Refusal) → List ℕ
numbers_of (Ok s) = 0 ∷ s.devices ∷ s.rules ∷ []
numbers_of (Err e) = numbers_at e.kind e.place

abbrev pub numbers_read : Read Hall → List ℕ
numbers_read (bad f i) = refusal_numbers f i
numbers_read (got h j) = 0 ∷ length h.costs ∷ length h.rules ∷ []

-- the arrays afterwards: unchanged on a refusal; else exactly the decoded hall in front
pub record Kept (costs codes starts costs' codes' starts' : List ℕ) : Type 0 where
  pub costs_kept : costs' ≡ costs
  pub codes_kept : codes' ≡ codes
  pub starts_kept : starts' ≡ starts

pub record Holds (h : Hall) (costs codes starts costs' codes' starts' : List ℕ) : Type 0 where
  pub costs_hold : costs' ≡ in_front h.costs costs
  pub codes_hold : codes' ≡ in_front (entry_codes (entries h.rules)) codes
  pub starts_hold : starts' ≡ in_front (starts_from 0 h.rules) starts

abbrev pub ArraysAfter : Read Hall → (costs codes starts costs' codes' starts' : List ℕ) → Type 0
ArraysAfter (bad f i) costs codes starts costs' codes' starts' = Kept costs codes starts costs' codes' starts'
ArraysAfter (got h j) costs codes starts costs' codes' starts' = Holds h costs codes starts costs' codes' starts'

pub record Decodes (ws : List ℤ) (room : ℕ) (costs codes starts : List ℕ) (r : Result Size (Refused Refusal)) (costs' codes' starts' : List ℕ) : Type 0 where
  pub says : numbers_of r ≡ numbers_read (decode room ws)
  pub arrays : ArraysAfter (decode room ws) costs codes starts costs' codes' starts'
