-- `scan` meets its contract. The loop keeps `Scanning`: what is left of the text, behind the clauses read so far, answers what all of
-- them answer; the measure is what is left of the bytes. Assumes nothing.
use native.Mathlib.Omega.{arith}
use borrow.Author.Rules.{rules}
use Rattle.dimacs.proofs.Scanning.{scanning_start, scanning_missing, scanning_end, scanning_bad, scanning_word, scanning_flaw, scanning_closes, scanning_enters}
use Rattle.dimacs.proofs.clauses.scan.Goals as goal

pub loop-found-init : goal.loop-found-init
loop-found-init c = scanning_start _ _ c.requires

pub returns-in_err-found : goal.returns-in_err-found
returns-in_err-found c =
    let h = scanning_bad c.loop-found.invariant _ c.in_err-found.ensures in
    search rules

pub returns-in_err-judged : goal.returns-in_err-judged
returns-in_err-judged c =
    let h = scanning_flaw c.loop-found.invariant {found = c.in-Some.found} (search rules) (search rules) c.judge.ensures in
    search (rules, h)

pub loop-found-smaller-in-Closes : goal.loop-found-smaller-in-Closes
loop-found-smaller-in-Closes c =
    let w = scanning_word c.loop-found.invariant {found = c.in-Some.found} (search rules) in
    omega (arith, w.on, w.inside)

pub loop-found-preserved-in-Closes : goal.loop-found-preserved-in-Closes
loop-found-preserved-in-Closes c =
    scanning_closes c.loop-found.invariant {found = c.in-Some.found} (search rules) (search rules) c.judge.ensures c.args.declared.rules c.requires (search rules)

pub loop-found-smaller : goal.loop-found-smaller
loop-found-smaller c =
    let w = scanning_word c.loop-found.invariant {found = c.in-Some.found} (search rules) in
    omega (arith, w.on, w.inside)

pub loop-found-preserved : goal.loop-found-preserved
loop-found-preserved c =
    scanning_enters c.loop-found.invariant {found = c.in-Some.found} (search rules) (search rules) c.judge.ensures c.args.declared.rules c.requires (search rules)

pub returns-then-so_far-declared : goal.returns-then-so_far-declared
returns-then-so_far-declared c = scanning_missing c.loop-found.invariant (search rules) c.if-so_far-declared.true

pub returns : goal.returns
returns c = scanning_end c.loop-found.invariant (search rules) c.if-so_far-declared.false
