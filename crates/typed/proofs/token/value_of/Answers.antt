-- `typed::token::value_of` meets its contract. The loop keeps `Summed`: n and the digits left say what all of them say, and n has
-- at most as many digits as were read. Assumes nothing.
use Rattle.typed.proofs.Decimals.{summed_more}
use Rattle.typed.proofs.token.value_of.Goals as goal

pub loop-b-preserved : goal.loop-b-preserved
loop-b-preserved c = summed_more c.loop-b.invariant c.requires.1 c.loop-b-test.true c.from.ensures
