-- `is_free` meets its contract: the byte of a code's device is 0 exactly where its entry is free. Assumes nothing.
use mathlib.Core.Path.{sym}
use Rattle.walk.proofs.Codes.{free_code}
use Rattle.walk.proofs.plan.is_free.Goals as goal

pub returns : goal.returns
returns c = sym (free_code _ _ c.requires)
