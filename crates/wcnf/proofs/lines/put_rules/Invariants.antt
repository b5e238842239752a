use Rattle.sheet.specs.Coded.{rules_of}
use Rattle.printing.specs.Contract.{Puts}
use Rattle.rails.specs.Rails.{rule_clauses}
use Rattle.wcnf.specs.Wcnf.{clause_lines}
use Rattle.wcnf.proofs.lines.put_rules.Given as goal

-- Invariant: the rules so far were put.
abbrev pub invariant-loop-r : goal.invariant-loop-r
invariant-loop-r l = Puts (clause_lines l.start (rule_clauses (rules_of l.hall.codes.now l.hall.starts.now 0 l.r))) l.initial.page l.page
