use mathlib.Core.Path.{◌≡◌}
use Rattle.sheet.proofs.Runs.{rules_told}
use Rattle.sheet.proofs.check.check_rules.Given as goal

-- Invariant: the rules that are left answer what all of them answer; each rule that is right leaves the rest of the run.
abbrev pub invariant-loop-r : goal.invariant-loop-r
invariant-loop-r l = rules_told l.n l.m l.r l.words l.place ≡ rules_told l.n l.m 0 l.words l.at
