use Prim.Native.Nat.{◌+◌}
use Rattle.needed.proofs.Stamping.{Stamped}
use Rattle.needed.proofs.leave.names_both.Given as goal

abbrev pub invariant-loop-code : goal.invariant-loop-code
invariant-loop-code l = Stamped l.codes l.from l.end l.rule l.initial.stamps (l.from + l.code-index) l.stamps
