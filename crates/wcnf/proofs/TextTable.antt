-- The rows of known texts, by computation: what is written (`rows_right`), what is read in either edition (`since_right`,
-- `before_right`). Assumes nothing.
use mathlib.Core.Path.{◌≡◌, refl}
use mathlib.Core.List.{map}
use Rattle.hall.specs.Hall.{among, names_both, leave_out}
use Rattle.hall.specs.Ranges.{words_of}
use Rattle.typed.specs.Text.{front, decimal}
use Rattle.typed.specs.Printing.{digits_by}
use Rattle.printing.specs.Lines.{spaced}
use Rattle.rails.specs.Weighted.{soft_weights}
use Rattle.rails.specs.Rails.{variable, pairs_from, denials_from, clauses}
use Rattle.wcnf.specs.declared.Edition.TheVariants.{Since2022, Before2022}
use Rattle.wcnf.specs.Wcnf.{clause_lines, wcnf}
use Rattle.wcnf.specs.Format.{pieces, lines_of, same, literals_to0, clauses_of, numbers, largest_in, largest, read_wcnf}
use Rattle.wcnf.specs.Table.{rewritten, rows, Saying, since_says, before_says}

pub rows_right : map rewritten rows ≡ rows
unfolding rows wcnf clause_lines clauses denials_from pairs_from variable soft_weights leave_out names_both among words_of spaced digits_by
rows_right = refl

pub since_right : map (λ (s : Saying). read_wcnf Since2022 s.text) since_says ≡ map (λ (s : Saying). s.says) since_says
unfolding since_says read_wcnf pieces lines_of same literals_to0 clauses_of largest_in largest front decimal
since_right = refl

pub before_right : map (λ (s : Saying). read_wcnf Before2022 s.text) before_says ≡ map (λ (s : Saying). s.says) before_says
unfolding before_says read_wcnf pieces lines_of same literals_to0 clauses_of numbers largest_in largest front decimal
before_right = refl
