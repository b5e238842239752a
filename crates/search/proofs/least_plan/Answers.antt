-- `least_plan` meets its contract: whatever the outcome of the walk, by Calls. Assumes nothing.
use mathlib.Core.Path.{refl, ap}
use Rattle.std.specs.Prelude.{Ok}
use Rattle.std.proofs.lemmas.Result.{err_from_is_err_and}
use Rattle.search.proofs.Calls.{found_few, found}
use native.Mathlib.Omega.{arith}
use Rattle.search.proofs.least_plan.Goals as goal

pub returns-in_err-found : goal.returns-in_err-found
returns-in_err-found c =
    let p = err_from_is_err_and c.from_residual.result c.from_residual.ensures.1 in
    rw (p.1, p.2) (found _ _ _ _ _ _ c.in_err-found.ensures c.plan_room-best.ensures refl _ refl)

pub slice_bounds-write_plan-end : goal.slice_bounds-write_plan-end
slice_bounds-write_plan-end c = omega (arith, c.best_of.auto.best, found_few _ _ _ _ _ _ c.in_ok-found.ensures (ap Ok c.in-Best.is))

pub returns-in-Best : goal.returns-in-Best
returns-in-Best c = found _ _ _ _ _ _ c.in_ok-found.ensures c.plan_room-best.ensures (ap Ok c.in-Best.is) _ c.write_plan.ensures

pub returns-in-None : goal.returns-in-None
returns-in-None c = found _ _ _ _ _ _ c.in_ok-found.ensures c.plan_room-best.ensures (ap Ok c.in-None.is) _ refl

pub returns-in-Spent : goal.returns-in-Spent
returns-in-Spent c = found _ _ _ _ _ _ c.in_ok-found.ensures c.plan_room-best.ensures (ap Ok c.in-Spent.is) _ refl
