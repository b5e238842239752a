-- THE CYCLE of `walk_plan` and `walk_entries` meets its contracts, by the laws of Steps: first the answers of `walk_entries`, then those
-- of `walk_plan`. The measure falls at every call: a child has one free device less, and a rule has fewer entries than the 33 that stand
-- for a plan. Assumes nothing.
use mathlib.Core.Path.{sym, ◌∙◌}
use native.Mathlib.Omega.{arith}
use Rattle.std.proofs.lemmas.Result.{err_from_is_err_and}
use Rattle.walk.proofs.Steps as steps
use Rattle.walk.proofs.walk.+walk_entries_walk_plan.Goals as goal

-- ── the answers of `walk_entries` ──
pub walk_entries-loop-code-init : goal.walk_entries-loop-code-init
walk_entries-loop-code-init t c = steps.partway_none _ _ c.requires.node

pub walk_entries-loop-code-preserved-then-not-is_free : goal.walk_entries-loop-code-preserved-then-not-is_free
walk_entries-loop-code-preserved-then-not-is_free t c =
    steps.passed_held c.loop-code.invariant c.loop-code-test.true (sym c.is_free.ensures ∙ c.if-not-is_free.true)

pub walk_entries-overflow_add-child : goal.walk_entries-overflow_add-child
walk_entries-overflow_add-child t c =
    let small = steps.small_child c.loop-code.invariant.node c.args.hall.now.loaded.devices c.args.hall.now.loaded.cheap _ c.cost_of.ensures in
    omega arith

pub walk_entries-overflow_add-child-in-loop-code : goal.walk_entries-overflow_add-child-in-loop-code
walk_entries-overflow_add-child-in-loop-code t c =
    let few = steps.few_held c.loop-code.invariant.node c.args.hall.now.loaded.devices in
    omega arith

pub walk_entries-walk_plan-went-requires : goal.walk_entries-walk_plan-went-requires
walk_entries-walk_plan-went-requires t c =
    let loose = sym c.is_free.ensures ∙ c.if-not-is_free.false in (
      steps.falls_child _ _ _ _ _ _ c.loop-code.invariant.as_was loose c.hold.ensures c.decreases,
      steps.child_node c.loop-code.invariant.node _ loose c.hold.ensures c.cost_of.ensures,
    )

pub walk_entries-returns-in_err-state : goal.walk_entries-returns-in_err-state
walk_entries-returns-in_err-state t c =
    let p = err_from_is_err_and c.from_residual.result c.from_residual.ensures.1 in
    rw (p.1, p.2)
    (steps.tried_spent c.loop-code.invariant c.loop-code-test.true
    (record {
      free = sym c.is_free.ensures ∙ c.if-not-is_free.false;
      holds = c.hold.ensures;
      walked = c.walk_plan-went.ensures;
      releases = c.release.ensures;
    })
    _
    c.in_err-state.was)

pub walk_entries-loop-code-preserved : goal.walk_entries-loop-code-preserved
walk_entries-loop-code-preserved t c =
    steps.tried_on c.loop-code.invariant c.loop-code-test.true
    (record {
      free = sym c.is_free.ensures ∙ c.if-not-is_free.false;
      holds = c.hold.ensures;
      walked = c.walk_plan-went.ensures;
      releases = c.release.ensures;
    })
    _
    c.in_ok-state.was
    c.walk_plan-went.auto.kept

pub walk_entries-returns : goal.walk_entries-returns
walk_entries-returns t c = steps.walked_all c.loop-code.invariant c.loop-code-test.false

-- ── the answers of `walk_plan` ──
pub walk_plan-walk_entries-requires : goal.walk_plan-walk_entries-requires
walk_plan-walk_entries-requires t c =
    let x = rw c.in-Branch.is at c.in_ok-next.ensures in (
      steps.branch_falls c.requires x c.decreases,
      steps.branch_entries c.requires x c.open_node.auto.kept,
    )

pub walk_plan-returns-in_err-next : goal.walk_plan-returns-in_err-next
walk_plan-returns-in_err-next t c =
    let p = err_from_is_err_and c.from_residual.result c.from_residual.ensures.1 in
    rw (p.1, p.2) (steps.walked_stopped c.requires _ c.in_err-next.ensures)

pub walk_plan-returns-in-Leaf : goal.walk_plan-returns-in-Leaf
walk_plan-returns-in-Leaf t c = steps.walked_leaf c.requires ((rw c.in-Leaf.is at c.in_ok-next.ensures) _)

pub walk_plan-returns-in-Branch : goal.walk_plan-returns-in-Branch
walk_plan-returns-in-Branch t c = steps.walked_branch c.requires (rw c.in-Branch.is at c.in_ok-next.ensures) c.walk_entries.ensures
