-- `lead_end` meets its contract. The loop keeps `AlongLead`: the bytes passed and those that are still to be passed are all bytes before
-- the first token. Assumes nothing.
use borrow.Author.Rules.{rules}
use Rattle.dimacs.proofs.LeadEnds.{lead_over, lead_token, lead_more}
use Rattle.dimacs.proofs.lead.lead_end.Goals as goal

pub returns-in-TokenStart : goal.returns-in-TokenStart
returns-in-TokenStart c = search (rules, lead_token)

pub loop-i-preserved : goal.loop-i-preserved
loop-i-preserved c = search (rules, lead_more)

pub returns : goal.returns
returns c = search (rules, lead_over)
