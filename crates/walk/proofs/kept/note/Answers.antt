-- `note` meets its contract: each of its four ways out is a law of Noting. Assumes nothing.
use Rattle.walk.proofs.Noting.{note_beyond, note_again, note_counted, note_written}
use Rattle.walk.proofs.kept.note.Goals as goal
use Rattle.walk.proofs.kept.note.Goals.{then-ties-2, else-ties-2}

pub returns-then-ties : goal.returns-then-ties
returns-then-ties c = note_beyond _ _ _ c.if-ties.true

pub returns-then-is_noted : goal.returns-then-is_noted
returns-then-is_noted c = note_again _ _ _ c.requires c.if-ties.false c.is_noted.ensures c.if-is_noted.true

pub returns : goal.returns
returns c =
    elim c.if-ties-2.branch [
      | then-ties-2 w ↦
          note_written _ _ _ c.requires c.if-ties.false c.is_noted.ensures c.if-is_noted.false w.if-ties-2.true _ w.write_plan.ensures w.run-is
      | else-ties-2 w ↦ note_counted _ _ _ c.requires c.if-ties.false c.is_noted.ensures c.if-is_noted.false w.if-ties-2.false w.run-is
    ]
