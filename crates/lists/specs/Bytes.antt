-- Bytes written as text, for the words that are printed and for rows of known answers.
--
-- A text stands for the codes of its characters: "a" is the byte 97, "\n" the byte 10, "\u{80}" the byte 128. Definitions only.
use Rattle.std.specs.Prelude.{List, [], ◌∷◌, ℕ, zero, suc}
use Prim.Native.Char.{code, len_utf8}
use Prim.Native.String.{String, count, char_at, slice, len}

-- the codes of so many characters from a text's front; `len_utf8` is how far a character goes in it
abbrev pub char_codes : (characters : ℕ) → String → List ℕ
char_codes zero text = []
char_codes (suc n) text = code (char_at text 0) ∷ char_codes n (slice text (len_utf8 (char_at text 0)) (len text))

abbrev pub bytes : String → List ℕ
bytes text = char_codes (count text) text
