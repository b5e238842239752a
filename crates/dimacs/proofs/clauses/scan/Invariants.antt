use Prim.Native.Nat.{◌-◌}
use lib.ListN.{length}
use Rattle.dimacs.proofs.Scanning.{Scanning}
use Rattle.dimacs.proofs.clauses.scan.Given as goal

abbrev pub invariant-loop-found : goal.invariant-loop-found
invariant-loop-found l =
    Scanning l.text l.declared.end l.declared.variables l.declared.clauses l.limit l.at l.so_far.closed l.so_far.width l.so_far.head

abbrev pub decreases-loop-found : goal.decreases-loop-found
decreases-loop-found l = length l.text - l.at
