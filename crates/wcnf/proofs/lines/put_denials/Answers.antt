-- `put_denials` meets its contract: nothing (`free_puts`), or one denial behind the other (`denials_put`). Assumes nothing.
use Rattle.wcnf.proofs.WrittenLines.{free_puts, denials_put}
use Rattle.wcnf.proofs.lines.put_denials.Goals as goal

pub returns-then-cost-gt0 : goal.returns-then-cost-gt0
returns-then-cost-gt0 c = search denials_put

pub returns-else-cost-gt0 : goal.returns-else-cost-gt0
returns-else-cost-gt0 c = search free_puts
