-- `edition_for` meets its contract: with two arguments, by the second (Asked). Assumes nothing.
use Rattle.handing.proofs.Asked.{old_asked, other_asked}
use Rattle.handing.proofs.edition_for.Goals as goal

pub returns-in-2 : goal.returns-in-2
returns-in-2 c = old_asked c.args.count c.args.word.now _ _ c.in-2.is c.as_slice.ensures c.eq.ensures c.if-eq.true

pub returns-in_default : goal.returns-in_default
returns-in_default c = other_asked c.args.count c.args.word.now _ _ c.in-2.is c.as_slice.ensures c.eq.ensures c.if-eq.false
