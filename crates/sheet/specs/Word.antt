-- One word of a sheet, as the code has it, and runs of words from a place on.
--
-- In order: a word and its sign; what stands at a place of a good sheet, and in a run of places. Definitions only.
use Rattle.std.specs.Prelude.{List, [], ◌∷◌, ℕ, zero, suc, ◌+◌, ℤ, pos, negsuc, Result, Ok, Err}
use Rattle.std.proofs.Math.Option.{Option, none, some}
use Rattle.std.proofs.Math.ListN.{get_elem?}
use Rattle.hall.specs.Hall.{Entry}
use Rattle.hall.specs.Reading.{Read, bad, got, entry}
use Rattle.refusals.specs.declared.Refusal.{Refusal}
use Rattle.refusals.specs.declared.Refusal.TheVariants.{TooShort}
use Rattle.refusals.specs.declared.Refused.{Refused}
use Rattle.refusals.specs.declared.Split.{Split}
use Rattle.refusals.specs.Word.{split_of}
use Rattle.sheet.specs.Coded.{entry_code}

-- the word at a place, or the refusal of a sheet of this length that ends before it
abbrev pub split_at : (length : ℕ) → Option ℤ → Result Split (Refused Refusal)
split_at length none = Err (record { kind = TooShort; place = length })
split_at length (some w) = Ok (split_of w)

-- the number at a place, 0 where there is none
abbrev pub number_in : Option ℤ → ℕ
number_in none = 0
number_in (some (pos n)) = n
number_in (some (negsuc n)) = 0

abbrev pub value_at : List ℤ → ℕ → ℕ
value_at ws at = number_in (get_elem? ws at)

-- the code at a place, 0 where there is none
abbrev pub code_or_zero : Read Entry → ℕ
code_or_zero (bad f i) = 0
code_or_zero (got e j) = entry_code e

abbrev pub code_at : ℕ → List ℤ → ℕ → ℕ
code_at n ws at = code_or_zero (entry n ws at)

-- so many values from a place on; of numbers, of codes
unfoldable pub run : (ℕ → ℕ) → ℕ → ℕ → List ℕ
run f at zero = []
run f at (suc left) = f at ∷ run f (at + 1) left

abbrev pub numbers_from : List ℤ → ℕ → ℕ → List ℕ
numbers_from ws = run (value_at ws)

abbrev pub codes_from : ℕ → List ℤ → ℕ → ℕ → List ℕ
codes_from n ws = run (code_at n ws)
