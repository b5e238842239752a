-- `write` meets its contract: a refused sheet is told as it was read; of a hall the text is made, and is too long or goes to the
-- room. Each is a law of WrittenText. Assumes nothing.
use mathlib.Core.Path.{refl}
use native.Mathlib.Omega.{arith}
use borrow.Author.Rules.{rules}
use Rattle.refusals.proofs.Widened.{was_ok, was_err}
use Rattle.wcnf.proofs.WrittenText.{write_refused, write_few, write_loaded, write_short, write_text}
use Rattle.wcnf.proofs.write.Goals as goal

pub returns-in_err-size : goal.returns-in_err-size
returns-in_err-size c =
    let e = was_err _ _ c.read.result c.in_err-size.ensures.variant c.in_err-size.ensures.cases in
    write_refused _ _ c.read.ensures e.0 e.1 _ e.2.0 e.2.1 _ c.from_residual.ensures.1

pub slice_bounds-hall-end : goal.slice_bounds-hall-end
slice_bounds-hall-end c = let e = was_ok _ _ c.read.result _ c.in_ok-size.ensures.variant c.in_ok-size.ensures.cases in search write_few

pub invariant_of-hall : goal.invariant_of-hall
invariant_of-hall c = let e = was_ok _ _ c.read.result _ c.in_ok-size.ensures.variant c.in_ok-size.ensures.cases in record { loaded = search write_loaded }

pub returns-then-out-length : goal.returns-then-out-length
returns-then-out-length c = let e = was_ok _ _ c.read.result _ c.in_ok-size.ensures.variant c.in_ok-size.ensures.cases in search write_short

pub returns : goal.returns
returns c =
    let e = was_ok _ _ c.read.result _ c.in_ok-size.ensures.variant c.in_ok-size.ensures.cases in
    write_text _ _ c.read.ensures e _ _ refl c.wcnf_room-text.ensures c.put_text.ensures (omega arith) _ (search rules)
