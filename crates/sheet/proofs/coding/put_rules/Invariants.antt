use Rattle.sheet.proofs.Putting.{Putting}
use Rattle.sheet.proofs.coding.put_rules.Given as goal

-- Invariant: the rules from r on stand from `place` on, and writing what is left of them leaves what writing all of them leaves
-- (`Putting`); writing one rule moves on to the next (`putting_more`).
abbrev pub invariant-loop-r : goal.invariant-loop-r
invariant-loop-r l = Putting l.n l.words l.m l.initial.codes l.initial.starts l.codes l.starts l.place l.first l.r
