-- `put_denial` meets its contract: the cost, the variable behind a minus, the end (`denial_puts`). Assumes nothing.
use Rattle.wcnf.proofs.WrittenLines.{denial_puts}
use Rattle.wcnf.proofs.lines.put_denial.Goals as goal

pub returns : goal.returns
returns c = search denial_puts
