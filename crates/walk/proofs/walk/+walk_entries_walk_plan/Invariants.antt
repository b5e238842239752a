-- The cycle of `walk_plan` and `walk_entries`: its measures, and what the loop over the entries keeps.
--
-- The measure is made of the free devices and the entries left (`remaining` of Steps): 33, more than a rule has entries, stands for a
-- plan. The loop over the entries keeps what is done of the rule's walk beside what is left of it (`Partway` of Steps).
use lib.ListN.{length}
use Rattle.hall.specs.Walk.{walk_from}
use Rattle.needed.specs.Rules.{hall_in}
use Rattle.walk.proofs.Steps.{remaining, Partway}
use Rattle.walk.proofs.walk.+walk_entries_walk_plan.Given as goal

abbrev pub decreases-walk_entries : goal.decreases-walk_entries
decreases-walk_entries l = remaining l.plan.now (length l.rule.now)

abbrev pub decreases-walk_plan : goal.decreases-walk_plan
decreases-walk_plan l = remaining l.plan.now 33

abbrev pub invariant-walk_entries-loop-code : goal.invariant-walk_entries-loop-code
invariant-walk_entries-loop-code l =
    Partway (hall_in l.hall) (walk_from (hall_in l.hall)) l.rule l.initial.plan l.initial.kept l.initial.state l.price l.code-index l.plan l.kept
    l.state
