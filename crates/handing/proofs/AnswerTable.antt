-- The rows of known output, by computation from the text to the bytes that are printed (`rows_right`). Assumes nothing.
use mathlib.Core.Path.{◌≡◌, refl}
use mathlib.Core.List.{map}
use Rattle.hall.specs.Hall.{among, names_both, leave_out}
use Rattle.hall.specs.Ranges.{words_of}
use Rattle.hall.specs.Reading.{times, rule, all_rules, hall, decode_by, decode}
use Rattle.typed.specs.Text.{read_text, read_tokens, number_of, decimal, tokens_from, front}
use Rattle.typed.specs.Printing.{digits_by}
use Rattle.printing.specs.Lines.{spaced}
use Rattle.rails.specs.Weighted.{soft_weights}
use Rattle.rails.specs.Rails.{variable, pairs_from, denials_from, clauses}
use Rattle.wcnf.specs.Wcnf.{clause_lines, wcnf, writing}
use Rattle.handing.specs.Handed.{handed_sheet, handed_for}
use Rattle.handing.specs.Table.{reprinted, rows}

pub rows_right : map reprinted rows ≡ rows
unfolding rows handed_for handed_sheet read_text read_tokens number_of decimal tokens_from front writing decode decode_by hall all_rules rule times wcnf clause_lines clauses denials_from pairs_from variable soft_weights leave_out names_both among words_of spaced digits_by
rows_right = refl
