use Rattle.walk.proofs.Unmet.{Passed}
use Rattle.walk.proofs.rules.first_unmet.Given as goal

abbrev pub invariant-loop-r : goal.invariant-loop-r
invariant-loop-r l = Passed l.hall l.plan l.r
