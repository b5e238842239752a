use Prim.Native.Nat.{◌-◌}
use lib.ListN.{length}
use Rattle.dimacs.proofs.Filling.{Filling}
use Rattle.dimacs.proofs.clauses.fill.Given as goal

abbrev pub invariant-loop-found : goal.invariant-loop-found
invariant-loop-found l =
    Filling l.text l.declared.end l.declared.variables l.declared.clauses l.initial.room l.at l.width l.head l.room

abbrev pub decreases-loop-found : goal.decreases-loop-found
decreases-loop-found l = length l.text - l.at
