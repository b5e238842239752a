use Rattle.typed.proofs.Decimals.{Summed}
use Rattle.typed.proofs.token.value_of.Given as goal

abbrev pub invariant-loop-b : goal.invariant-loop-b
invariant-loop-b l = Summed l.digits l.n l.b-index
