-- `read` meets its contract: a text that is too long is refused, any other is read up to its first flaw, and where there is none the
-- sheet is put into the room. Assumes nothing.
use borrow.Author.Rules.{rules}
use Rattle.dimacs.proofs.FileRead.{too_long_lem, header_missing, counts_refused, clauses_refused, fill_fits, filed}
use Rattle.dimacs.proofs.read.Goals as goal

pub returns-then-text-gt60000 : goal.returns-then-text-gt60000
returns-then-text-gt60000 c =
    let h = too_long_lem {before = c.args.room.now} c.if-text-gt60000.true in
    search rules

pub returns-in_err-header : goal.returns-in_err-header
returns-in_err-header c =
    let h = header_missing _ c.args.room.now c.if-text-gt60000.false _ c.in_err-header.ensures in
    search rules

pub returns-in_err-declared : goal.returns-in_err-declared
returns-in_err-declared c =
    let h = counts_refused _ c.args.room.now c.if-text-gt60000.false _ c.limit_of-limit.ensures _ c.in_ok-header.ensures _ c.in_err-declared.ensures in
    search rules

pub returns-in_err-words : goal.returns-in_err-words
returns-in_err-words c =
    let h = clauses_refused _ c.args.room.now c.if-text-gt60000.false _ c.limit_of-limit.ensures _ c.in_ok-header.ensures c.in_ok-declared.ensures _ c.in_err-words.ensures.says in
    search rules

pub fill-requires : goal.fill-requires
fill-requires c =
    fill_fits _ c.args.room.now c.if-text-gt60000.false _ c.limit_of-limit.ensures _ c.in_ok-header.ensures c.in_ok-declared.ensures
    c.in_ok-words.ensures.says
    c.put_counts.ensures

pub returns : goal.returns
returns c =
    filed _ _ c.if-text-gt60000.false _ c.limit_of-limit.ensures _ c.in_ok-header.ensures c.in_ok-declared.ensures
    c.in_ok-words.ensures.says
    c.put_counts.ensures
    c.in_ok-words.ensures.counts
    c.fill.ensures
