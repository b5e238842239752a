-- `list_sheet` meets its contract: the line of a refusal, or for each case of the list its lines are the definition's (Lists). Assumes
-- nothing.
use Rattle.foreman.proofs.Lists.{plans_within, lists_plans, lists_none, lists_spent, lists_refused}
use Rattle.foreman.proofs.list_sheet.Goals as goal
use Rattle.foreman.proofs.list_sheet.Goals.{in-Plans, in-None, in-Spent}

pub returns-in-Err : goal.returns-in-Err
returns-in-Err c = search lists_refused

pub put_plans-requires : goal.put_plans-requires
put_plans-requires c = search plans_within

pub returns : goal.returns
returns c = elim c.match-found.branch [
  | in-Plans w ↦ rw w.page-is (search lists_plans)
  | in-None w ↦ rw w.page-is (search lists_none)
  | in-Spent w ↦ rw w.page-is (search lists_spent)
]
