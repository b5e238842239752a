-- `is_better` meets its contract: the prices decide, and where they are equal the marks have the last word. Assumes nothing.
use mathlib.Core.Path.{sym, ◌∙◌}
use Rattle.walk.proofs.Prices.{better_is}
use Rattle.walk.proofs.kept.is_better.Goals as goal

pub returns-in-Less : goal.returns-in-Less
returns-in-Less c = sym (rw (sym c.compared.ensures ∙ c.in-Less.is) at (better_is c.args.best c.args.best_plan.now c.args.plan.now c.args.price))

pub returns-in-Equal : goal.returns-in-Equal
returns-in-Equal c =
    c.comes_before.ensures
    ∙ sym (rw (sym c.compared.ensures ∙ c.in-Equal.is) at (better_is c.args.best c.args.best_plan.now c.args.plan.now c.args.price))

pub returns-in-Greater : goal.returns-in-Greater
returns-in-Greater c =
    sym (rw (sym c.compared.ensures ∙ c.in-Greater.is) at (better_is c.args.best c.args.best_plan.now c.args.plan.now c.args.price))
