-- `totals_of` meets its contract: the library's sum and count (TotalsKept). Assumes nothing.
use borrow.Author.Rules.{rules}
use Rattle.wcnf.proofs.TotalsKept.{totals}
use Rattle.wcnf.proofs.totals.totals_of.Goals as goal

pub returns : goal.returns
returns c = totals c.args.hall.loaded (search rules) (search rules)
