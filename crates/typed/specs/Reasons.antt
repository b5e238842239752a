-- The reasons for a refusal, apart from the reader (Text). 01, "Sheets typed as text", the table and the order.
--
-- In order: a token at a place; the reason of each kind. That each refusal is given for its reason and only for it is a theorem
-- (proofs/Verdicts). Definitions only.
use Rattle.std.specs.Prelude.{◌≡◌, ◌⊎◌, Bool, true, false, List, [], ◌∷◌, ◌++◌, ℕ, ◌+◌, ◌≤◌, ◌<◌, length, ℤ}
use Rattle.typed.specs.Text.{is_separator, in_token, is_digit, has_minus, decimal, signed}
use Rattle.typed.specs.Allowed.{Passing, sign, WordSized, Allowed, Reached}
use Rattle.typed.specs.declared.Mistake.{Mistake}
use Rattle.typed.specs.declared.Mistake.TheVariants.{WrongByte, BadNumber, TooLong, NoRoom}

-- a token ends where the text does, or a separator stands
abbrev pub TokenEnds : List ℕ → Type 0
TokenEnds [] = Unit {0}
TokenEnds (b ∷ bs) = is_separator b ≡ true

-- the token at a place of a text, a longest run of bytes other than separators, behind tokens that are words
pub record TokenAt (text : List ℕ) (words : List ℤ) (place : ℕ) (token : List ℕ) : Type 0 where
  pub after : List ℕ
  pub reached : Reached text words place (token ++ after)
  pub some : 1 ≤ length token
  pub bytes : Passing in_token token
  pub ends : TokenEnds after

-- behind the digits stands another byte; or nothing stands there, and there is no digit
abbrev pub Stops : (digits rest : List ℕ) → Type 0
Stops digits [] = digits ≡ []
Stops digits (b ∷ bs) = is_digit b ≡ false

-- 21: "wrong byte in a token, or a minus with no digit after it": so many bytes of the token, an optional minus and digits, stand
-- before the wrong byte, or before where the digit should stand
pub record Wrong (token : List ℕ) (before : ℕ) : Type 0 where
  pub minus : Bool
  pub opens : has_minus token ≡ minus
  pub digits : List ℕ
  pub rest : List ℕ
  pub spelled : token ≡ sign minus ++ (digits ++ rest)
  pub each : Passing is_digit digits
  pub stops : Stops digits rest
  pub size : before ≡ length (sign minus) + length digits

-- 22: "more than 10 digits, or a value outside -2,147,483,648 to 2,147,483,647"
pub record Bad (token : List ℕ) : Type 0 where
  pub minus : Bool
  pub digits : List ℕ
  pub spelled : token ≡ sign minus ++ digits
  pub each : Passing is_digit digits
  pub some : 1 ≤ length digits
  pub bad : (10 < length digits) ⊎ (WordSized (signed minus (decimal 0 digits)) → ⊥)

-- 21: "the wrong byte, or where the digit should stand (the end of the text included)"
pub record HasWrongByte (i : ℕ) (text : List ℕ) (room : ℕ) : Type 0 where
  pub short : length text ≤ 60000
  pub words : List ℤ
  pub fits : length words ≤ room
  pub place : ℕ
  pub token : List ℕ
  pub here : TokenAt text words place token
  pub before : ℕ
  pub wrong : Wrong token before
  pub byte : i ≡ place + before

-- 22: "the token's first byte"
pub record HasBadNumber (i : ℕ) (text : List ℕ) (room : ℕ) : Type 0 where
  pub short : length text ≤ 60000
  pub words : List ℤ
  pub fits : length words ≤ room
  pub token : List ℕ
  pub here : TokenAt text words i token
  pub bad : Bad token

-- 23: "more than 60,000 bytes | 60,000"
pub record HasManyBytes (i : ℕ) (text : List ℕ) : Type 0 where
  pub long : 60000 < length text
  pub place : i ≡ 60000

-- 24: "more tokens than the room holds | first byte of the first token without room"
pub record HasNoRoom (i : ℕ) (text : List ℕ) (room : ℕ) : Type 0 where
  pub short : length text ≤ 60000
  pub words : List ℤ
  pub full : length words ≡ room
  pub token : List ℕ
  pub here : TokenAt text words i token
  pub z : ℤ
  pub allowed : Allowed token z

-- the reason for a refusal of each kind, with its place
abbrev pub Reason : Mistake → ℕ → List ℕ → ℕ → Type 0
Reason WrongByte i text room = HasWrongByte i text room
Reason BadNumber i text room = HasBadNumber i text room
Reason TooLong i text room = HasManyBytes i text
Reason NoRoom i text room = HasNoRoom i text room
