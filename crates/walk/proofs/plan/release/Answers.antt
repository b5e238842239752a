-- `release` meets its contract: the byte of the code's device is 0 again. Assumes nothing.
use mathlib.Core.Path.{sym}
use Rattle.walk.proofs.Codes.{release_code}
use Rattle.walk.proofs.plan.release.Goals as goal

pub returns : goal.returns
returns c = sym (release_code _ _)
