use Prim.Native.Nat.{◌-◌}
use lib.ListN.{length}
use Rattle.typed.proofs.Counting.{Counting}
use Rattle.typed.proofs.words.scan.Given as goal

abbrev pub invariant-loop-found : goal.invariant-loop-found
invariant-loop-found l = Counting l.text l.room l.at l.count

abbrev pub decreases-loop-found : goal.decreases-loop-found
decreases-loop-found l = length l.text - l.at
