-- `put_rule` meets its contract: what starts it, its entries, the end (`clause_puts`). Assumes nothing.
use Rattle.wcnf.proofs.WrittenLines.{clause_puts}
use Rattle.wcnf.proofs.lines.put_rule.Goals as goal

pub returns : goal.returns
returns c = search clause_puts
