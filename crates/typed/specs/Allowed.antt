-- The texts that are accepted, apart from the reader (Text): allowed tokens and separators. 01, "Sheets typed as text".
--
-- In order: an allowed token; a text up to where a token may begin; the texts that spell words, and those that are accepted. That
-- the reader accepts exactly these is a theorem (proofs/Verdicts). Definitions only.
use Rattle.std.specs.Prelude.{◌≡◌, Bool, true, false, List, [], ◌∷◌, ◌++◌, ℕ, ◌≤◌, length, ℤ, pos, negsuc}
use Rattle.lists.specs.Lists.{Each}
use Rattle.typed.specs.Text.{is_separator, is_digit, decimal, signed}

-- each byte of a list passes a test
abbrev pub Passing : (ℕ → Bool) → List ℕ → Type 0
Passing test = Each (λ b. test b ≡ true)

-- "an optional minus", the byte 45
abbrev pub sign : (minus : Bool) → List ℕ
sign true = 45 ∷ []
sign false = []

-- "-2,147,483,648 to 2,147,483,647"; `negsuc n` is -n - 1
abbrev pub WordSized : ℤ → Type 0
WordSized (pos n) = n ≤ 2147483647
WordSized (negsuc n) = n ≤ 2147483647

-- "A token is an optional minus and 1 to 10 digits", with a value in the range
pub record Allowed (token : List ℕ) (z : ℤ) : Type 0 where
  pub minus : Bool
  pub digits : List ℕ
  pub spelled : token ≡ sign minus ++ digits
  pub each : Passing is_digit digits
  pub some : 1 ≤ length digits
  pub few : length digits ≤ 10
  pub value : z ≡ signed minus (decimal 0 digits)
  pub range : WordSized z

-- separators, and allowed tokens each with a separator behind it, with the tokens' values
pub data Closed : List ℕ → List ℤ → Type 0 where
  nothing : Closed [] []
  separator : {b : ℕ} {bs : List ℕ} {words : List ℤ} → is_separator b ≡ true → Closed bs words → Closed (b ∷ bs) words
  word : {token : List ℕ} {z : ℤ} (b : ℕ) {bs : List ℕ} {words : List ℤ} → Allowed token z → is_separator b ≡ true → Closed bs words
      → Closed (token ++ (b ∷ bs)) (z ∷ words)

-- a place of a text where a token may begin, with the words before it and the text from there on
pub record Reached (text : List ℕ) (words : List ℤ) (place : ℕ) (rest : List ℕ) : Type 0 where
  pub before : List ℕ
  pub closed : Closed before words
  pub whole : text ≡ before ++ rest
  pub size : place ≡ length before

-- "Tokens are separated by one or more of the bytes 9, 10, 13 and 32, which may also stand at either end": the last token may have
-- no separator behind it
pub data Spells (text : List ℕ) (words : List ℤ) : Type 0 where
  ended : Closed text words → Spells text words
  last : {others : List ℤ} {place : ℕ} {token : List ℕ} {z : ℤ} → Reached text others place token → Allowed token z
      → words ≡ others ++ (z ∷ []) → Spells text words

-- the texts that are accepted, for a room of so many words, with the words
pub record Accepted (text : List ℕ) (room : ℕ) (words : List ℤ) : Type 0 where
  pub short : length text ≤ 60000
  pub fits : length words ≤ room
  pub spells : Spells text words
