use Rattle.plans.specs.Runs.{plans_from}
use Rattle.printing.specs.Contract.{Puts}
use Rattle.foreman.specs.Printed.{hold_lines}
use Rattle.foreman.proofs.holds.put_plans.Given as goal

-- Invariant: the lines of the plans so far were put.
abbrev pub invariant-loop-i : goal.invariant-loop-i
invariant-loop-i l = Puts (hold_lines (plans_from l.i l.n l.run)) l.initial.page l.page
