-- What the private functions promise, in the words of Text and Answer.
--
-- In order: a value as a word; what a token says. Definitions only.
use Rattle.std.specs.Prelude.{cond, ℤ, Option, Some, None, Result, Ok, Err}
use Rattle.refusals.specs.declared.Refused.{Refused}
use Rattle.typed.specs.Text.{Read, refused, got, fits_word}
use Rattle.typed.specs.declared.Mistake.{Mistake}

-- a value as a word, where it is in range
abbrev pub fitted : ℤ → Option ℤ
fitted z = cond (fits_word z) (Some z) None

-- what a token says, as the code has it
abbrev pub said_of : Read ℤ → Result ℤ (Refused Mistake)
said_of (refused m place) = Err (record { kind = m; place = place })
said_of (got z) = Ok z
