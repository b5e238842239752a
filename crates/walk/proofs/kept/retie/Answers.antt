-- `retie` meets its contract: each of its three ways out is a law of Noting. Assumes nothing.
use Rattle.walk.proofs.Noting.{retie_lower, retie_equal, retie_higher}
use Rattle.walk.proofs.kept.retie.Goals as goal

pub returns-in-Less : goal.returns-in-Less
returns-in-Less c = search retie_lower

pub returns-in-Equal : goal.returns-in-Equal
returns-in-Equal c = search retie_equal

pub returns-in-Greater : goal.returns-in-Greater
returns-in-Greater c = search retie_higher
