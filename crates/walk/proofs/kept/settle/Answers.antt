-- `settle` meets its contract: the plan is copied exactly where `is_better` says so. Assumes nothing.
use Rattle.walk.proofs.Openings.{settles_better}
use Rattle.walk.proofs.kept.settle.Goals as goal

pub returns-then-is_better : goal.returns-then-is_better
returns-then-is_better c = search settles_better
