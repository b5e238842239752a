-- `solve` meets its contract: it walks the hall from its first node, and each of the four ways in which that ends is a law of Solves.
-- Assumes nothing.
use native.Mathlib.Omega.{arith}
use Rattle.walk.proofs.Solves.{first_node, finds_spent, finds_none, finds_best, finds_ties}
use Rattle.walk.proofs.solve.solve.Goals as goal

pub walk_plan-requires : goal.walk_plan-requires
walk_plan-requires c =
    first_node _ c.args.hall.now.loaded.devices _ c.plan_room-plan.ensures c.args.asked _ _ c.args.kept.now c.most.ensures c.requires

pub returns-in-Err : goal.returns-in-Err
returns-in-Err c = finds_spent _ c.args.hall.now.loaded.devices _ c.plan_room-plan.ensures c.walk_plan.ensures _ _ c.in-Err.is

pub returns-in_default : goal.returns-in_default
returns-in_default c =
    finds_none _ c.args.hall.now.loaded.devices _ c.plan_room-plan.ensures c.walk_plan.ensures _ c.in-Ok.is _ _ c.in_default.is

pub returns-in-Best : goal.returns-in-Best
returns-in-Best c =
    rw c.in-Best.is
    (finds_best _ c.args.hall.now.loaded.devices _ c.plan_room-plan.ensures c.walk_plan.ensures _ c.in-Ok.is c.in-Some.is (omega arith) _ c.write_plan.ensures)

pub returns-in-Ties : goal.returns-in-Ties
returns-in-Ties c =
    rw c.in-Ties.is
    (finds_ties _ c.args.hall.now.loaded.devices _ c.plan_room-plan.ensures c.walk_plan.ensures _ c.in-Ok.is c.in-Some.is (omega arith)
    (rw c.in-Ties.is at c.most.ensures) _ c.min.ensures c.write_plan-in-Ties.ensures)
