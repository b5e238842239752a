-- Words printed in decimal, with single blanks between them.
--
-- In order: the digits of a number; a word; a list of words. That such a text reads back as its words is a theorem
-- (proofs/Printed). Definitions only.
use Rattle.std.specs.Prelude.{cond, List, [], ◌∷◌, ◌++◌, ℕ, zero, suc, ◌+◌, ◌/◌, ◌%◌, ℤ, pos, negsuc, ltb}

-- the decimal digits of n, the most significant first, none of them a leading zero; n divisions are more than enough
unfoldable pub digits_by : (divisions : ℕ) → ℕ → List ℕ
digits_by zero n = (48 + n) ∷ []
digits_by (suc k) n = cond (ltb n 10) ((48 + n) ∷ []) (digits_by k (n / 10) ++ ((48 + n % 10) ∷ []))

abbrev pub digits_of : ℕ → List ℕ
digits_of n = digits_by n n

-- a minus, the byte 45, in front of a word below 0; `negsuc n` is -n - 1
abbrev pub printed_word : ℤ → List ℕ
printed_word (pos n) = digits_of n
printed_word (negsuc n) = 45 ∷ digits_of (suc n)

-- single blanks, the byte 32, between the words
unfoldable pub printed : List ℤ → List ℕ
printed [] = []
printed (z ∷ []) = printed_word z
printed (z ∷ y ∷ zs) = printed_word z ++ (32 ∷ printed (y ∷ zs))
