use lib.ListN.{length}
use Rattle.typed.proofs.Filling.{Filling}
use Rattle.typed.proofs.words.fill.Given as goal

abbrev pub invariant-loop-word : goal.invariant-loop-word
invariant-loop-word l = Filling l.text (length l.fn.room) l.at l.word-index l.word-items
