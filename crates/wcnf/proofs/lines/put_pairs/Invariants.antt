use Rattle.std.proofs.Common.{take}
use Rattle.printing.specs.Contract.{Puts}
use Rattle.rails.specs.Rails.{pairs_from}
use Rattle.wcnf.specs.Wcnf.{clause_lines}
use Rattle.wcnf.proofs.lines.put_pairs.Given as goal

-- Invariant: the pairs so far were put.
abbrev pub invariant-loop-device : goal.invariant-loop-device
invariant-loop-device l = Puts (clause_lines l.start (pairs_from 0 (take l.device l.hall.costs.now))) l.initial.page l.page
