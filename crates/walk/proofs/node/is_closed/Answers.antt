-- `is_closed` meets its contract: the order of prices is step 2's test. Assumes nothing.
use mathlib.Core.Path.{◌∙◌}
use Rattle.walk.proofs.Prices.{closed_is}
use Rattle.walk.proofs.node.is_closed.Goals as goal

pub returns-in-Some : goal.returns-in-Some
returns-in-Some c = rw c.in-Some.is (c.le.ensures ∙ closed_is c.in-Some.least c.args.price)
