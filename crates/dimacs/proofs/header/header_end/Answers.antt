-- `header_end` meets its contract: behind the comments `p`, and behind `p` `cnf`. Assumes nothing.
use borrow.Author.Rules.{rules}
use Rattle.dimacs.proofs.HeaderWords.{header_none, header_behind}
use Rattle.dimacs.proofs.header.header_end.Goals as goal

pub returns-in_err-p : goal.returns-in_err-p
returns-in_err-p c =
    let h = header_none _ _ c.lead_end.ensures _ c.in_err-p.ensures in
    search rules

pub returns : goal.returns
returns c = header_behind _ _ c.lead_end.ensures _ c.in_ok-p.ensures _ c.word_end-2.ensures
