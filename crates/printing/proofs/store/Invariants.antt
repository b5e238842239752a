use Prim.Native.Nat.{◌+◌}
use mathlib.Core.Path.{◌≡◌}
use lib.ListN.{length, drop}
use lib.Seq.{sets}
use Rattle.printing.proofs.store.Given as goal

-- Invariant: storing the bytes that are left leaves what storing all of them leaves; storing one takes it off the rest
-- (`copy_more`). The room is as long as it was.
abbrev pub invariant-loop-i : goal.invariant-loop-i
invariant-loop-i l = (sets l.room (l.at + l.i) (drop l.i l.bytes) ≡ sets l.initial.room l.at l.bytes) × (length l.room ≡ length l.initial.room)
