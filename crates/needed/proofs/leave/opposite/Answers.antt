-- `opposite` meets its contract: an even code goes up by one, an odd one down by one. Assumes nothing.
use native.Mathlib.Omega.{arith}
use Rattle.needed.proofs.Stamping.{opposite_code}
use Rattle.needed.proofs.leave.opposite.Goals as goal

pub returns : goal.returns
returns c = record { says = opposite_code _; within = omega arith }
