-- `put_clauses` meets its contract: the rules, the pairs, the denials (`clauses_put`). Assumes nothing.
use Rattle.wcnf.proofs.WrittenLines.{clauses_put}
use Rattle.wcnf.proofs.lines.put_clauses.Goals as goal

pub returns : goal.returns
returns c = search clauses_put
