-- The table of known files, each part as one claim, by computation: files that are accepted (`accepted_right`), 31 (`headers_right`),
-- 21 and 22 (`numbers_right`), 12 and 18 (`counts_right`), 14 and 19 (`entries_right`), 24 (`rooms_right`), 32 and 33 (`ends_right`).
-- Assumes nothing.
use mathlib.Core.Path.{◌≡◌, refl}
use mathlib.Core.List.{map}
use Rattle.hall.specs.Ranges.{words_of, rule_words, words}
use Rattle.typed.specs.Text.{front, tokens_from, decimal, number_of}
use Rattle.dimacs.specs.Stage.{sheet_so_far}
use Rattle.dimacs.specs.File.{lead_length, taken, read_numbers, same_bytes, read_header, read_file}
use Rattle.dimacs.specs.Table.{Row, effect, accepted_files, header_files, number_files, count_files, entry_files, room_files, end_files}

pub accepted_right : map effect accepted_files ≡ map (λ (r : Row). r.expected) accepted_files
unfolding accepted_files effect read_file read_header read_numbers taken sheet_so_far same_bytes lead_length words rule_words words_of number_of decimal tokens_from front
accepted_right = refl

pub headers_right : map effect header_files ≡ map (λ (r : Row). r.expected) header_files
unfolding header_files effect read_file read_header read_numbers taken sheet_so_far same_bytes lead_length words rule_words words_of number_of decimal tokens_from front
headers_right = refl

pub numbers_right : map effect number_files ≡ map (λ (r : Row). r.expected) number_files
unfolding number_files effect read_file read_header read_numbers taken sheet_so_far same_bytes lead_length words rule_words words_of number_of decimal tokens_from front
numbers_right = refl

pub counts_right : map effect count_files ≡ map (λ (r : Row). r.expected) count_files
unfolding count_files effect read_file read_header read_numbers taken sheet_so_far same_bytes lead_length words rule_words words_of number_of decimal tokens_from front
counts_right = refl

pub entries_right : map effect entry_files ≡ map (λ (r : Row). r.expected) entry_files
unfolding entry_files effect read_file read_header read_numbers taken sheet_so_far same_bytes lead_length words rule_words words_of number_of decimal tokens_from front
entries_right = refl

pub rooms_right : map effect room_files ≡ map (λ (r : Row). r.expected) room_files
unfolding room_files effect read_file read_header read_numbers taken sheet_so_far same_bytes lead_length words rule_words words_of number_of decimal tokens_from front
rooms_right = refl

pub ends_right : map effect end_files ≡ map (λ (r : Row). r.expected) end_files
unfolding end_files effect read_file read_header read_numbers taken sheet_so_far same_bytes lead_length words rule_words words_of number_of decimal tokens_from front
ends_right = refl
