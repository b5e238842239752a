use Prim.Native.Nat.{◌+◌, ◌-◌}
use mathlib.Core.Path.{◌≡◌}
use lib.Seq.{sets}
use Rattle.sheet.specs.Word.{codes_from}
use Rattle.sheet.proofs.coding.put_entries.Given as goal

-- Invariant: writing the codes that are left leaves what writing all of them leaves; writing one takes it off the rest (`run_step`).
abbrev pub invariant-loop-i : goal.invariant-loop-i
invariant-loop-i l = sets l.codes (l.first + l.i) (codes_from l.n l.words (l.at + l.i) (l.width - l.i)) ≡ sets l.initial.codes l.first (codes_from l.n l.words l.at l.width)
