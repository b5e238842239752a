-- The rows of known output, by computation from the text to the bytes that are printed (`rows_right`); the line for too many plans
-- (`too_many_right`). Assumes nothing.
use mathlib.Core.Path.{◌≡◌, refl, sym}
use mathlib.Core.List.{map}
use lib.Dec.{lit≤, lit<}
use Rattle.hall.specs.Hall.{holds, is_free, hold, holds_one, among, names_both, meets_rule, meets_all, first_unmet}
use Rattle.hall.specs.Order.{if_held, cost_of, held_of, held_from, less, rank, better}
use Rattle.hall.specs.Walk.{keep, one_more, closes, shut, still, after, entry_by, through, opening, node_by, node, walk, walk_from, start, walk_hall}
use Rattle.hall.specs.Ties.{ties, tying, place_by, place, in_order, equal_to, joined}
use Rattle.hall.specs.Ranges.{words_of}
use Rattle.hall.specs.Reading.{times, rule, all_rules, hall, decode_by, decode}
use Rattle.hall.specs.Listing.{short, fits, listing}
use Rattle.typed.specs.Text.{read_text, read_tokens, number_of, decimal, tokens_from, front}
use Rattle.typed.specs.Printing.{digits_by}
use Rattle.printing.specs.Lines.{spaced}
use Rattle.printing.proofs.Digits.{decimal_is}
use Rattle.foreman.specs.Printed.{hold_lines, printed_listing, printed_sheet, printed_for}
use Rattle.foreman.specs.Table.{Row, output, rows, too_many}

pub rows_right : map output rows ≡ map (λ (r : Row). r.printed) rows
unfolding rows printed_for printed_sheet hold_lines read_text read_tokens number_of decimal tokens_from front listing fits equal_to in_order place place_by tying ties joined decode decode_by hall all_rules rule times walk_hall walk_from start walk node node_by opening through entry_by after still shut closes one_more keep better rank less held_from held_of cost_of if_held first_unmet meets_all meets_rule names_both among holds_one hold is_free holds words_of spaced digits_by
rows_right = refl

pub too_many_right : printed_listing (short 51200) ≡ too_many
unfolding spaced
too_many_right = rw (sym (decimal_is 51 2 (lit≤ tt, lit< tt, (λ l. lit≤ tt)))) (rw (sym (decimal_is 51200 5 (lit≤ tt, lit< tt, (λ l. lit≤ tt)))) refl)
