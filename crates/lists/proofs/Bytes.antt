-- Texts and the bytes that they stand for, by computation (`bytes_right`): digits, a blank and byte 10; a tab and byte 13; a character
-- beyond 127, which stands for one byte. Assumes nothing.
use mathlib.Core.Path.{◌≡◌, refl}
use mathlib.Core.List.{[], ◌∷◌, map}
use Rattle.lists.specs.Bytes.{bytes}

pub bytes_right : map bytes ("" ∷ "hold 10\n" ∷ "\t\r" ∷ "\u{80}-" ∷ []) ≡ [] ∷ (104 ∷ 111 ∷ 108 ∷ 100 ∷ 32 ∷ 49 ∷ 48 ∷ 10 ∷ []) ∷ (9 ∷ 13 ∷ []) ∷ (128 ∷ 45 ∷ []) ∷ []
bytes_right = refl
