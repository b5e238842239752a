-- `put_pair` meets its contract: what starts it, the two variables behind a minus each, the end (`pair_puts`). Assumes nothing.
use Rattle.wcnf.proofs.WrittenLines.{pair_puts}
use Rattle.wcnf.proofs.lines.put_pair.Goals as goal

pub returns : goal.returns
returns c = search pair_puts
