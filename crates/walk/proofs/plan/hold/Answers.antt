-- `hold` meets its contract: the byte that it writes is the mark of the code's entry. Assumes nothing.
use mathlib.Core.Path.{sym}
use Rattle.walk.proofs.Codes.{hold_code}
use Rattle.walk.proofs.plan.hold.Goals as goal

pub returns : goal.returns
returns c = sym (hold_code _ _)
