-- `holds` meets its contract: the byte of a code's device is compared with the mark of the code's entry. Assumes nothing.
use mathlib.Core.Path.{sym}
use Rattle.walk.proofs.Codes.{holds_code}
use Rattle.walk.proofs.rules.holds.Goals as goal

pub returns : goal.returns
returns c = sym (holds_code _ _)
