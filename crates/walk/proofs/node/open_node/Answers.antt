-- `open_node` meets its contract: each of its four ways out is a law of Openings. Assumes nothing.
use Rattle.std.proofs.lemmas.Result.{err_from_is_err_and}
use Rattle.walk.proofs.Openings.{opened_stopped, opened_met, opened_shut, opened_branch}
use Rattle.walk.proofs.node.open_node.Goals as goal

pub returns-in_err-open : goal.returns-in_err-open
returns-in_err-open c =
    let p = err_from_is_err_and c.from_residual.result c.from_residual.ensures.1 in
    rw (p.1, p.2) (opened_stopped c.requires c.open.ensures _ c.args.kept.now c.in_err-open.was)

pub returns-in-None : goal.returns-in-None
returns-in-None c = opened_met c.requires c.open.ensures c.in_ok-open.was c.in-None.ensures c.keep.ensures

pub returns-in-Some : goal.returns-in-Some
returns-in-Some c =
    opened_shut c.requires c.open.ensures c.in_ok-open.was c.in-Some.ensures c.is_closed.ensures c.if-is_closed.true

pub returns-in-Some-2 : goal.returns-in-Some-2
returns-in-Some-2 c =
    opened_branch c.requires c.open.ensures c.in_ok-open.was c.in-Some.ensures c.is_closed.ensures c.if-is_closed.false
