-- `best_of` meets its contract: the best plan is what is asked for. Assumes nothing.
use Rattle.walk.proofs.Calls.{best_is}
use Rattle.walk.proofs.best_of.Goals as goal

pub returns : goal.returns
returns c = search best_is
