use mathlib.Core.Path.{◌≡◌}
use Prim.Native.Nat.{◌-◌}
use Rattle.hall.specs.Reading.{rule}
use Rattle.sheet.specs.Check.{step_of}
use Rattle.sheet.proofs.Runs.{entries_told}
use Rattle.sheet.proofs.check.check_rule.Given as goal

-- Invariant: the entries that are left answer what the rule answers; each entry that is right leaves the rest of the run.
abbrev pub invariant-loop-place : goal.invariant-loop-place
invariant-loop-place l = entries_told l.n (l.end - l.place) l.words l.place ≡ step_of (rule l.n l.number l.words l.at)
