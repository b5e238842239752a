-- `typed::words::scan` meets its contract. The loop keeps `Counting`: what is left of the text, with the words counted, answers what
-- the whole text answers; the measure is what is left of the bytes. Assumes nothing.
use mathlib.Core.Path.{sym, ◌∙◌, ap}
use Rattle.std.proofs.Common.{arith, rules, Ok}
use Rattle.typed.proofs.Counting.{counting_end, counting_bad, counting_full, counting_more}
use Rattle.typed.proofs.Splitting.{next_found}
use Rattle.typed.proofs.words.scan.Goals as goal

pub returns-in_err-found : goal.returns-in_err-found
returns-in_err-found c =
    let e = counting_bad c.loop-found.invariant c.in_err-found.ensures in
    search rules

pub returns-then-room-count-clause-says : goal.returns-then-room-count-clause-says
returns-then-room-count-clause-says c =
    counting_full c.loop-found.invariant (sym (ap Ok c.in-Some.is) ∙ c.in_ok-found.ensures) (omega arith)

pub loop-found-smaller : goal.loop-found-smaller
loop-found-smaller c =
    let w = next_found _ _ (sym (ap Ok c.in-Some.is) ∙ c.in_ok-found.ensures) in
    omega (arith, w.on, w.inside)

pub loop-found-preserved : goal.loop-found-preserved
loop-found-preserved c =
    counting_more c.loop-found.invariant (sym (ap Ok c.in-Some.is) ∙ c.in_ok-found.ensures) (omega arith)

pub returns-clause-says : goal.returns-clause-says
returns-clause-says c = counting_end c.loop-found.invariant (sym (ap Ok c.in_default.is) ∙ c.in_ok-found.ensures)
