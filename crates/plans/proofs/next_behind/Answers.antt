-- `next_behind` meets its contract: the chunks of the run are its plans (Chunks), of which the first is taken (Next). Assumes nothing.
use native.Mathlib.Omega.{arith}
use borrow.Author.Rules.{rules}
use Rattle.plans.proofs.Next.{next_found, next_nothing}
use Rattle.plans.proofs.next_behind.Goals as goal

pub returns-then-n-eq0 : goal.returns-then-n-eq0
returns-then-n-eq0 c = search next_nothing

pub returns : goal.returns
returns c =
    next_found _ _ _ _ c.filter.ensures.runs (search rules) c.filter.ensures.source c.filter.ensures.closure (search rules) (search rules) (omega arith) (λ x b q k. search rules)
