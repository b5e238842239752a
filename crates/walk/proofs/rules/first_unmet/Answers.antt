-- `first_unmet` meets its contract: what the rules left say is what all say (`Passed`). Assumes nothing.
use Rattle.walk.proofs.Unmet.{all_met, passed_one, unmet_at}
use Rattle.walk.proofs.rules.first_unmet.Goals as goal

pub returns-then-not-holds_one : goal.returns-then-not-holds_one
returns-then-not-holds_one c = search unmet_at

pub loop-r-preserved : goal.loop-r-preserved
loop-r-preserved c = search passed_one

pub returns : goal.returns
returns c = search all_met
