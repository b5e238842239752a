-- The tables of known texts and of known files, by computation from the text to the lines that are printed (`rows_right`, `files_right`);
-- large numbers (`million_right`, `five_billion_right`, `largest_of_64_right`), and the line of a budget that was spent (`spent_right`).
-- Assumes nothing.
use mathlib.Core.Path.{◌≡◌, refl, sym}
use mathlib.Core.List.{map}
use lib.Dec.{lit≤, lit<}
use Rattle.lists.specs.Bytes.{bytes}
use Rattle.hall.specs.Hall.{holds, is_free, hold, holds_one, among, names_both, meets_rule, meets_all, first_unmet}
use Rattle.hall.specs.Order.{if_held, cost_of, held_of, held_from, less, rank, better}
use Rattle.hall.specs.Walk.{keep, one_more, closes, shut, still, after, entry_by, through, opening, node_by, node, walk, walk_from, start, walk_hall}
use Rattle.hall.specs.Ranges.{words_of, rule_words, words}
use Rattle.hall.specs.Reading.{times, rule, all_rules, hall, decode_by, decode}
use Rattle.hall.specs.Answer.{spent, answer}
use Rattle.typed.specs.Text as text
use Rattle.typed.specs.Printing.{digits_by, digits_of}
use Rattle.dimacs.specs.Stage.{sheet_so_far}
use Rattle.dimacs.specs.File as cnf
use Rattle.printing.specs.Lines.{spaced}
use Rattle.printing.proofs.Digits.{decimal_is}
use Rattle.reply.specs.Printed.{printed_answer, printed_for, printed_for_file}
use Rattle.reply.specs.Table.{Row, output, output_of_file, rows, file_rows, million, five_billion, largest_of64}

pub rows_right : map output rows ≡ map (λ (r : Row). r.printed) rows
unfolding rows printed_for text.read_text text.read_tokens text.number_of text.decimal text.tokens_from text.front answer decode decode_by hall all_rules rule times walk_hall walk_from start walk node node_by opening through entry_by after still shut closes one_more keep better rank less held_from held_of cost_of if_held first_unmet meets_all meets_rule names_both among holds_one hold is_free holds words_of spaced digits_by
rows_right = refl

pub files_right : map output_of_file file_rows ≡ map (λ (r : Row). r.printed) file_rows
unfolding file_rows printed_for_file cnf.read_file cnf.read_header cnf.read_numbers cnf.taken sheet_so_far cnf.same_bytes cnf.lead_length words rule_words text.number_of text.decimal text.tokens_from text.front answer decode decode_by hall all_rules rule times walk_hall walk_from start walk node node_by opening through entry_by after still shut closes one_more keep better rank less held_from held_of cost_of if_held first_unmet meets_all meets_rule names_both among holds_one hold is_free holds words_of spaced digits_by
files_right = refl

-- large numbers, by the law that a number's digits are the kit's
pub million_right : digits_of 1000000 ≡ million
million_right = sym (decimal_is 1000000 7 (lit≤ tt, lit< tt, (λ l. lit≤ tt)))

pub five_billion_right : digits_of 5000000000 ≡ five_billion
five_billion_right = sym (decimal_is 5000000000 10 (lit≤ tt, lit< tt, (λ l. lit≤ tt)))

pub largest_of_64_right : digits_of 18446744073709551615 ≡ largest_of64
largest_of_64_right = sym (decimal_is 18446744073709551615 20 (lit≤ tt, lit< tt, (λ l. lit≤ tt)))

-- the line of a budget that was spent
pub spent_right : printed_answer (spent 1000000) ≡ bytes "spent 1000000\n"
unfolding spaced
spent_right = rw million_right
