-- One token by itself: the answers of `next_token` and `next_word`, of the tokens from a place on. Their contracts are that the answer is
-- this one. 01, "Sheets typed as text".
--
-- In order: where the first of some tokens stands; what it says. Definitions only.
use Rattle.std.specs.Prelude.{List, [], ◌∷◌, ℕ, ◌+◌, length, ℤ, Option, Some, None, Result, Ok, Err}
use Rattle.refusals.specs.declared.Refused.{Refused}
use Rattle.typed.specs.Text.{Read, refused, got, Token, value_of}
use Rattle.typed.specs.declared.Mistake.{Mistake}
use Rattle.typed.specs.declared.Span.{Span}
use Rattle.typed.specs.declared.Found.{Found}

-- a token goes from its first byte to the place behind its last
abbrev pub end_of : Token → ℕ
end_of t = t.place + length t.bytes

abbrev pub span_of : List Token → Option Span
span_of [] = None
span_of (t ∷ ts) = Some (record { start = t.place; end = end_of t })

-- 21 and 22, as in a sheet
abbrev pub says_at : (start end : ℕ) → Read ℤ → Result (Option Found) (Refused Mistake)
says_at start end (refused m place) = Err (record { kind = m; place = place })
says_at start end (got z) = Ok (Some (record { word = z; start = start; end = end }))

abbrev pub next_of : List Token → Result (Option Found) (Refused Mistake)
next_of [] = Ok None
next_of (t ∷ ts) = says_at t.place (end_of t) (value_of t)
