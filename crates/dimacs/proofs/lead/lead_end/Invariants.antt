use Rattle.dimacs.proofs.LeadEnds.{AlongLead}
use Rattle.dimacs.proofs.lead.lead_end.Given as goal

abbrev pub invariant-loop-i : goal.invariant-loop-i
invariant-loop-i l = AlongLead l.text l.spot l.i
