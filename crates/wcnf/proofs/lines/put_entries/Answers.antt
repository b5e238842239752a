-- `put_entries` meets its contract: one entry after the other, by its code (WrittenLines). Assumes nothing.
use Rattle.printing.proofs.Putting.{puts_nothing, puts_more}
use Rattle.wcnf.proofs.WrittenLines.{entries_none, entries_more}
use Rattle.wcnf.proofs.lines.put_entries.Goals as goal

pub loop-code-init : goal.loop-code-init
loop-code-init c = search (puts_nothing, entries_none)

pub loop-code-preserved : goal.loop-code-preserved
loop-code-preserved c = search (puts_more, entries_more)
