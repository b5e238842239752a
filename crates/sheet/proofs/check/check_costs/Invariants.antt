use mathlib.Core.Path.{◌≡◌}
use Prim.Native.Nat.{◌+◌, ◌-◌}
use Rattle.sheet.proofs.Runs.{costs_told}
use Rattle.sheet.proofs.check.check_costs.Given as goal

-- Invariant: the costs that are left answer what all of them answer; each cost that is right leaves the rest of the run.
abbrev pub invariant-loop-place : goal.invariant-loop-place
invariant-loop-place l = costs_told (l.at + l.n - l.place) l.words l.place ≡ costs_told l.n l.words l.at
