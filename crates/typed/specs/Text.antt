-- A sheet typed as text: its tokens, what one token says, and what reading the whole comes to. 01, "Sheets typed as text".
--
-- In order: the kinds of mistake and their codes; bytes; the tokens of a text; one token: its digits, 21, its value, 22; the
-- tokens one after another, with 24; the whole, with 23. Not here: the answer's numbers and the room (Answer). Definitions only.
use Rattle.std.specs.Prelude.{Bool, true, false, cond, not, ◌||◌, ◌&&◌, List, [], ◌∷◌, ℕ, zero, suc, ◌+◌, ◌-◌, ◌*◌, length, drop, ℤ, pos, negsuc, neg_ℤ, leb, ltb, eqb}
use Rattle.typed.specs.declared.Mistake.{Mistake}
use Rattle.typed.specs.declared.Mistake.TheVariants.{WrongByte, BadNumber, TooLong, NoRoom}

-- "Code": the one place that turns a kind into its number
abbrev pub mistake_code : Mistake → ℕ
mistake_code WrongByte = 21
mistake_code BadNumber = 22
mistake_code TooLong = 23
mistake_code NoRoom = 24

-- what reading comes to: a mistake and its place, or a value. "Place (byte from 0)"
pub data Read (A : Type 0) : Type 0 where
  refused : Mistake → (place : ℕ) → Read A
  got : A → Read A

-- the first mistake decides: after it nothing more is read
abbrev pub then : {A B : Type 0} → Read A → (A → Read B) → Read B
then (refused m i) k = refused m i
then (got a) k = k a

-- ── bytes ──
-- "the bytes 9, 10, 13 and 32"
abbrev pub is_separator : ℕ → Bool
is_separator b = eqb b 9 || eqb b 10 || eqb b 13 || eqb b 32

-- any other byte stands in a token
abbrev pub in_token : ℕ → Bool
in_token b = not (is_separator b)

-- the digits 0 to 9 are the bytes 48 to 57
abbrev pub is_digit : ℕ → Bool
is_digit b = leb 48 b && leb b 57

-- the longest run of bytes at the front that pass a test
unfoldable pub front : (ℕ → Bool) → List ℕ → List ℕ
front test [] = []
front test (b ∷ bs) = cond (test b) (b ∷ front test bs) []

-- ── the tokens of a text ──
-- the place of the first byte, and the bytes
pub record Token : Type 0 where
  pub place : ℕ
  pub bytes : List ℕ

abbrev pub placed : ℕ → List ℕ → Token
placed i bs = record { place = i; bytes = bs }

-- a token in front of the others, where one begins
abbrev pub if_fresh : Bool → Token → List Token → List Token
if_fresh true t ts = t ∷ ts
if_fresh false t ts = ts

-- "Tokens are separated by one or more of the bytes 9, 10, 13 and 32, which may also stand at either end": a token is a longest
-- run of other bytes. It begins at such a byte that is `fresh`: at the text's start, or behind a separator
unfoldable pub tokens_from : (fresh : Bool) → (place : ℕ) → List ℕ → List Token
tokens_from fresh i [] = []
tokens_from fresh i (b ∷ bs) =
    cond (is_separator b)
    (tokens_from true (suc i) bs)
    (if_fresh fresh (placed i (b ∷ front in_token bs)) (tokens_from false (suc i) bs))

abbrev pub tokens : List ℕ → List Token
tokens text = tokens_from true 0 text

-- the tokens from a place on, at which none is going on; none behind the text's end
abbrev pub tokens_at : List ℕ → ℕ → List Token
tokens_at text i = tokens_from true i (drop i text)

-- ── one token ──
-- "A token is an optional minus and 1 to 10 digits": whether there is a minus, the byte 45, and what stands behind it
abbrev pub has_minus : List ℕ → Bool
has_minus [] = false
has_minus (b ∷ bs) = eqb b 45

abbrev pub behind_minus : List ℕ → List ℕ
behind_minus bs = cond (has_minus bs) (drop 1 bs) bs

-- how many digits stand at the front
abbrev pub digits_in : List ℕ → ℕ
digits_in bs = length (front is_digit bs)

-- 21: "wrong byte in a token, or a minus with no digit after it": behind the optional minus no digit comes first, or another byte
-- stands behind the digits
abbrev pub is_wrong : List ℕ → Bool
is_wrong ds = eqb (digits_in ds) 0 || ltb (digits_in ds) (length ds)

-- the number that digits say, behind a number that was read before them
unfoldable pub decimal : ℕ → List ℕ → ℕ
decimal n [] = n
decimal n (b ∷ bs) = decimal (n * 10 + (b - 48)) bs

-- a number with its sign; "-0" is 0
abbrev pub signed : (minus : Bool) → ℕ → ℤ
signed true n = neg_ℤ (pos n)
signed false n = pos n

-- "-2,147,483,648 to 2,147,483,647"; `negsuc n` is -n - 1
abbrev pub fits_word : ℤ → Bool
fits_word (pos n) = leb n 2147483647
fits_word (negsuc n) = leb n 2147483647

-- 22: "more than 10 digits, or a value outside -2,147,483,648 to 2,147,483,647"
abbrev pub is_bad : (minus : Bool) → List ℕ → Bool
is_bad minus ds = ltb 10 (length ds) || not (fits_word (signed minus (decimal 0 ds)))

-- "for each token 21 over its whole length, then 22"
-- 21: "the wrong byte, or where the digit should stand (the end of the text included)"; 22: "the token's first byte"
abbrev pub judged : (wrong bad : Bool) → (minus : Bool) → (place : ℕ) → List ℕ → Read ℤ
judged true bad minus i ds = refused WrongByte (i + cond minus 1 0 + digits_in ds)
judged false true minus i ds = refused BadNumber i
judged false false minus i ds = got (signed minus (decimal 0 ds))

-- the token at a place: an optional minus, and what stands behind it
unfoldable pub number_of : (minus : Bool) → (place : ℕ) → List ℕ → Read ℤ
number_of minus i ds = judged (is_wrong ds) (is_bad minus ds) minus i ds

abbrev pub value_of : Token → Read ℤ
value_of t = number_of (has_minus t.bytes) t.place (behind_minus t.bytes)

-- ── the whole ──
-- "token by token, and for each token 21 .., then 22, then 24", for a room that still holds so many words
-- 24: "more tokens than the room holds | first byte of the first token without room"
unfoldable pub read_tokens : (room : ℕ) → List Token → Read (List ℤ)
read_tokens room [] = got []
read_tokens zero (t ∷ ts) = then (value_of t) λ z. refused NoRoom t.place
read_tokens (suc room) (t ∷ ts) = then (value_of t) λ z. then (read_tokens room ts) λ zs. got (z ∷ zs)

-- 23: "more than 60,000 bytes | 60,000". "Order: 23; then token by token"
unfoldable pub read_text : List ℕ → (room : ℕ) → Read (List ℤ)
read_text text room = cond (ltb 60000 (length text)) (refused TooLong 60000) (read_tokens room (tokens text))
