-- `leave_out` meets its contract. The loop's invariant: storing what is left of the rules from r on leaves what storing all that
-- stay leaves, and what was not reached lies as it did (`Leaving`). Assumes nothing.
use mathlib.Core.Path.{refl}
use borrow.Author.Rules.{rules}
use Rattle.needed.proofs.Leaving.{none_done, all_done, testable, left_one, stays_one}
use Rattle.needed.proofs.leave.leave_out.Goals as goal

pub loop-r-init : goal.loop-r-init
loop-r-init c = search none_done

pub names_both-requires : goal.names_both-requires
names_both-requires c = search testable

pub loop-r-preserved-then-names_both : goal.loop-r-preserved-then-names_both
loop-r-preserved-then-names_both c =
    left_one c.loop-r.invariant c.loop-r-test.true refl (search rules) c.names_both.ensures c.if-names_both.true

pub loop-r-preserved : goal.loop-r-preserved
loop-r-preserved c =
    stays_one c.loop-r.invariant c.loop-r-test.true refl c.move_down-to.ensures (search rules) c.names_both.ensures
    c.if-names_both.false

pub returns : goal.returns
returns c = search all_done
