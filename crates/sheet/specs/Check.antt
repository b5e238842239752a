-- What the check's parts say of the decoder's readings.
--
-- In order: what is told of any reading (`told`); a count, an entry, a part of the sheet, the whole. Definitions only.
use Rattle.std.specs.Prelude.{ℕ, length, Result, Ok, Err}
use Rattle.hall.specs.Hall.{Entry, Hall}
use Rattle.hall.specs.Reading.{Read, bad, got}
use Rattle.refusals.specs.Contract.{kind_of}
use Rattle.refusals.specs.declared.Refusal.{Refusal}
use Rattle.refusals.specs.declared.Refused.{Refused}
use Rattle.sheet.specs.Coded.{entry_code}
use Rattle.sheet.specs.declared.Size.{Size}

-- the refusal, or what is told of the value and the next word's place
abbrev pub told : {A B : Type 0} → (A → (next : ℕ) → B) → Read A → Result B (Refused Refusal)
told tell (bad f i) = Err (record { kind = kind_of f; place = i })
told tell (got a j) = Ok (tell a j)

abbrev pub count_of : Read ℕ → Result ℕ (Refused Refusal)
count_of = told (λ n next. n)

-- the code of an entry
abbrev pub code_of : Read Entry → Result ℕ (Refused Refusal)
code_of = told (λ e next. entry_code e)

-- the next word's place
abbrev pub step_of : {A : Type 0} → Read A → Result ℕ (Refused Refusal)
step_of = told (λ a next. next)

abbrev pub sheet_of : Read Hall → Result Size (Refused Refusal)
sheet_of = told (λ h next. record { devices = length h.costs; rules = length h.rules })
