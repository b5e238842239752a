-- The table of known texts, each part as one claim, by computation: texts that are accepted (`accepted_right`), 21
-- (`wrong_bytes_right`), 22 (`bad_numbers_right`), 24 and the order of the three (`rooms_right`),
-- printed words (`printings_right`). Assumes nothing.
use mathlib.Core.Path.{◌≡◌, refl}
use mathlib.Core.List.{map}
use Rattle.typed.specs.Text.{front, tokens_from, decimal, number_of, read_tokens, read_text}
use Rattle.typed.specs.Printing.{digits_by, printed}
use Rattle.typed.specs.Table.{Row, effect, accepted_texts, wrong_bytes, bad_numbers, rooms, samples, printings}

pub accepted_right : map effect accepted_texts ≡ map (λ (r : Row). r.expected) accepted_texts
unfolding accepted_texts effect read_text read_tokens number_of decimal tokens_from front
accepted_right = refl

pub wrong_bytes_right : map effect wrong_bytes ≡ map (λ (r : Row). r.expected) wrong_bytes
unfolding wrong_bytes effect read_text read_tokens number_of decimal tokens_from front
wrong_bytes_right = refl

pub bad_numbers_right : map effect bad_numbers ≡ map (λ (r : Row). r.expected) bad_numbers
unfolding bad_numbers effect read_text read_tokens number_of decimal tokens_from front
bad_numbers_right = refl

pub rooms_right : map effect rooms ≡ map (λ (r : Row). r.expected) rooms
unfolding rooms effect read_text read_tokens number_of decimal tokens_from front
rooms_right = refl

pub printings_right : map printed samples ≡ printings
unfolding samples printings printed digits_by
printings_right = refl
