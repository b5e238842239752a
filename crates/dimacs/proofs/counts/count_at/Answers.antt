-- `count_at` meets its contract: the next token is none, has a mistake, or is a number in its range or outside it. Assumes nothing.
use borrow.Author.Rules.{rules}
use Rattle.dimacs.proofs.CountsRead.{count_none, count_mistaken, count_is, count_outside}
use Rattle.dimacs.proofs.counts.count_at.Goals as goal

pub returns-in_err-found : goal.returns-in_err-found
returns-in_err-found c =
    let a = c.args in
    let h = count_mistaken a.text.now a.from a.most a.kind _ c.in_err-found.ensures in
    search rules

pub returns-in_default : goal.returns-in_default
returns-in_default c =
    let a = c.args in
    count_none a.text.now a.from a.most a.kind (search rules)

pub returns-in-Up : goal.returns-in-Up
returns-in-Up c =
    let a = c.args in
    count_is a.text.now a.from a.most a.kind {f = c.in-Some.found} (search rules) (search rules) c.if-number-most.true

pub returns-in_default-from : goal.returns-in_default-from
returns-in_default-from c =
    let a = c.args in
    let h = count_outside a.text.now a.from a.most a.kind {f = c.in-Some.found} (search rules) (search rules) in
    search rules
