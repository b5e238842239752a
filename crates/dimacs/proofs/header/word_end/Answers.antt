-- `word_end` meets its contract: the text ends, or its next token is the word, or is another. Assumes nothing.
use borrow.Author.Rules.{rules}
use Rattle.typed.proofs.Splitting.{span_token}
use Rattle.dimacs.proofs.HeaderWords.{word_same, word_other}
use Rattle.dimacs.proofs.header.word_end.Goals as goal

pub slice_bounds-eq-end : goal.slice_bounds-eq-end
slice_bounds-eq-end c = let t = span_token _ _ c.in-Some.ensures in search (rules, t)

pub returns-in-Some : goal.returns-in-Some
returns-in-Some c = word_same _ _ _ c.in-Some.ensures (search rules)

pub returns-in-Some-2 : goal.returns-in-Some-2
returns-in-Some-2 c = word_other _ _ _ c.in-Some.ensures (search rules)
