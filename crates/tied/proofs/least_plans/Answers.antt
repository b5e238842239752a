-- `least_plans` meets its contract: each of its ways out is a law of Calls. Assumes nothing.
use Prim.Native.Nat.{◌≤◌}
use native.Mathlib.Omega.{arith}
use Rattle.std.proofs.lemmas.Result.{err_from_is_err_and}
use Rattle.tied.proofs.Calls.{handled, ended, call_many, call_small, call_end, call_listed, call_short}
use Rattle.tied.proofs.least_plans.Goals as goal

pub returns-in_err-found : goal.returns-in_err-found
returns-in_err-found c =
    let p = err_from_is_err_and c.from_residual.result c.from_residual.ensures.1 in
    rw (p.1, p.2) (handled _ _ _ _ _ _ c.ties_of.ensures _ c.in_err-found.ensures.cases)

pub returns-then-number-gt256 : goal.returns-then-number-gt256
returns-then-number-gt256 c = let u = c.in_ok-found.ensures.cases in search call_many

pub overflow_mul-end : goal.overflow_mul-end
overflow_mul-end c = omega (arith, call_small _ _ c.args.room.now _ _ _ c.ties_of.ensures c.in_ok-found.ensures.cases c.in-Best.is (omega arith))

pub slice_bounds-put_in_order-end : goal.slice_bounds-put_in_order-end
slice_bounds-put_in_order-end c =
    let few : c.in-Best.number ≤ 256 = omega arith in
    search (call_end _ _ c.args.room.now _ _ _ c.ties_of.ensures c.in_ok-found.ensures.cases c.in-Best.is few)

pub returns-then-not-put_in_order : goal.returns-then-not-put_in_order
returns-then-not-put_in_order c = let u = c.in_ok-found.ensures.cases in let few : c.in-Best.number ≤ 256 = omega arith in search call_short

pub returns-else-not-put_in_order : goal.returns-else-not-put_in_order
returns-else-not-put_in_order c = let u = c.in_ok-found.ensures.cases in let few : c.in-Best.number ≤ 256 = omega arith in search call_listed

pub returns-in-None : goal.returns-in-None
returns-in-None c = ended _ _ _ _ _ _ c.ties_of.ensures c.in_ok-found.ensures.cases c.in-None.is

pub returns-in-Spent : goal.returns-in-Spent
returns-in-Spent c = ended _ _ _ _ _ _ c.ties_of.ensures c.in_ok-found.ensures.cases c.in-Spent.is
