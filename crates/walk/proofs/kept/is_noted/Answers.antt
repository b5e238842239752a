-- `is_noted` meets its contract: a plan of no devices is the only one there is (`noted_none`), any other is looked for in the run
-- (`noted_some`). Assumes nothing.
use mathlib.Core.Path.{sym, ◌∙◌}
use borrow.Author.Tests.{eqb-true, eqb-false}
use Rattle.walk.proofs.Noting.{noted_none, noted_some}
use Rattle.walk.proofs.kept.is_noted.Goals as goal

pub returns-then-is_empty : goal.returns-then-is_empty
returns-then-is_empty c = noted_none _ _ _ (eqb-true _ _ (sym c.is_empty.ensures ∙ c.if-is_empty.true))

pub returns : goal.returns
returns c = noted_some _ _ _ (eqb-false _ _ (sym c.is_empty.ensures ∙ c.if-is_empty.false)) c.stands_in.ensures
