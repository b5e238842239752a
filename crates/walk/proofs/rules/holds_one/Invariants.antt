use Rattle.walk.proofs.Unmet.{Untested}
use Rattle.walk.proofs.rules.holds_one.Given as goal

abbrev pub invariant-loop-code : goal.invariant-loop-code
invariant-loop-code l = Untested l.plan l.rule l.code-index
