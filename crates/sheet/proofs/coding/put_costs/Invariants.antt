use Prim.Native.Nat.{◌+◌, ◌-◌}
use mathlib.Core.Path.{◌≡◌}
use lib.Seq.{sets}
use Rattle.sheet.specs.Word.{numbers_from}
use Rattle.sheet.proofs.coding.put_costs.Given as goal

-- Invariant: writing the costs that are left leaves what writing all of them leaves; writing one takes it off the rest (`run_step`).
abbrev pub invariant-loop-i : goal.invariant-loop-i
invariant-loop-i l = sets l.costs l.i (numbers_from l.words (l.i + 1) (l.n - l.i)) ≡ sets l.initial.costs 0 (numbers_from l.words 1 l.n)
