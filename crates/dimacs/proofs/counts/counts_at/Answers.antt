-- `counts_at` meets its contract: one count behind the other, each with room for the sheet so far. Assumes nothing.
use borrow.Author.Rules.{rules}
use Rattle.dimacs.proofs.CountsRead.{counts_first, counts_full, counts_second, counts_over, counts_are}
use Rattle.dimacs.proofs.counts.counts_at.Goals as goal

pub returns-in_err-variables : goal.returns-in_err-variables
returns-in_err-variables c =
    let h = counts_first c.args.text.now c.args.from c.args.limit _ c.in_err-variables.ensures in
    search rules

pub returns-then-limit-variables : goal.returns-then-limit-variables
returns-then-limit-variables c =
    let h = counts_full _ _ _ c.in_ok-variables.ensures c.if-limit-variables.true in
    search rules

pub returns-in_err-clauses : goal.returns-in_err-clauses
returns-in_err-clauses c =
    let h = counts_second c.args.text.now c.args.from c.args.limit c.in_ok-variables.ensures c.if-limit-variables.false _ c.in_err-clauses.ensures in
    search rules

pub returns-then-limit-variables-2 : goal.returns-then-limit-variables-2
returns-then-limit-variables-2 c =
    let h = counts_over _ _ _ c.in_ok-variables.ensures c.if-limit-variables.false c.in_ok-clauses.ensures c.if-limit-variables-2.true in
    search rules

pub returns : goal.returns
returns c =
    counts_are _ _ _ c.in_ok-variables.ensures c.if-limit-variables.false c.in_ok-clauses.ensures c.if-limit-variables-2.false
