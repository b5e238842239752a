-- The rows of known clauses, by computation (`rows_right`). Assumes nothing.
use mathlib.Core.Path.{◌≡◌, refl}
use mathlib.Core.List.{map}
use Rattle.hall.specs.Hall.{among, names_both, leave_out}
use Rattle.rails.specs.Rails.{variable, pairs_from, denials_from, clauses}
use Rattle.rails.specs.Table.{Row, rows}

pub rows_right : map (λ (r : Row). clauses r.hall) rows ≡ map (λ (r : Row). r.clauses) rows
unfolding rows clauses denials_from pairs_from variable leave_out names_both among
rows_right = refl
