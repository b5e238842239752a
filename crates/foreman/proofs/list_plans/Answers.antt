-- `list_plans` meets its contract: a text that is refused (`lists_mistake`), or one whose sheet is listed (`lists_words`). Assumes
-- nothing.
use Rattle.typed.proofs.WordsRead.{read_within}
use Rattle.foreman.proofs.Texts.{lists_mistake, lists_words}
use Rattle.foreman.proofs.list_plans.Goals as goal

pub slice_bounds-list_sheet-end : goal.slice_bounds-list_sheet-end
slice_bounds-list_sheet-end c = search read_within

pub returns-in-Err : goal.returns-in-Err
returns-in-Err c = search lists_mistake

pub returns-in-Ok : goal.returns-in-Ok
returns-in-Ok c = search lists_words
