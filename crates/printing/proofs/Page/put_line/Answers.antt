-- `put_line` meets its contract: the word, the numbers, the end of the line (`puts_then`), each number of 64 bits (`line_short`).
-- Assumes nothing.
use Rattle.std.proofs.Common.{arith}
use Rattle.printing.proofs.Lengths.{line_short}
use Rattle.printing.proofs.Putting.{puts_then}
use Rattle.printing.proofs.Page.put_line.Goals as goal

pub returns : goal.returns
returns c = record { puts = search puts_then; short = line_short _ c.args.numbers.now (λ i. omega (arith, c.type_inv.numbers i)) }
