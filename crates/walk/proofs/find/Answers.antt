-- `find` meets its contract: a refused sheet is told as it was read (`find_refused`); what is left of a hall can be walked, and what is found
-- there is found of the sheet (Calls). Assumes nothing.
use mathlib.Core.Path.{refl}
use Rattle.std.proofs.lemmas.Result.{err_from_is_err_and}
use Rattle.walk.proofs.Calls.{find_refused, find_loaded, find_found}
use Rattle.walk.proofs.find.Goals as goal

pub returns-in_err-size : goal.returns-in_err-size
returns-in_err-size c =
    let p = err_from_is_err_and c.from_residual.result c.from_residual.ensures.1 in
    rw (p.1, p.2) (find_refused c.in_err-size.ensures refl c.args.asked c.args.budget _)

pub invariant_of-hall : goal.invariant_of-hall
invariant_of-hall c = let d = c.in_ok-size.ensures in search find_loaded

pub invariant_of-hall-in-Ties : goal.invariant_of-hall-in-Ties
invariant_of-hall-in-Ties c = let d = c.in_ok-size.ensures in search find_loaded

pub returns-in-Best : goal.returns-in-Best
returns-in-Best c = let d = c.in_ok-size.ensures in search find_found

pub returns-in-Ties : goal.returns-in-Ties
returns-in-Ties c = let d = c.in_ok-size.ensures in rw c.in-Ties.is (search find_found)
