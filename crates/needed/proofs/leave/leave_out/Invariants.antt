use Rattle.needed.proofs.Leaving.{Leaving}
use Rattle.needed.proofs.leave.leave_out.Given as goal

abbrev pub invariant-loop-r : goal.invariant-loop-r
invariant-loop-r l = Leaving l.initial.codes l.initial.starts l.m l.codes l.starts l.stamps l.end l.to l.left l.r
