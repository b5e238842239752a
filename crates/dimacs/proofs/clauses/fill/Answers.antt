-- `fill` meets its contract. The loop keeps `Filling`: the rules written so far stand in front of the room, and what is left of the
-- clauses is read without a flaw; the measure is what is left of the bytes. Assumes nothing.
use native.Mathlib.Omega.{arith}
use borrow.Author.Rules.{rules}
use Rattle.dimacs.proofs.Filling.{filling_start, filling_reads, filling_end, filling_word, filling_outside, close_room, entry_room, filling_closes, filling_enters}
use Rattle.dimacs.proofs.clauses.fill.Goals as goal

pub loop-found-init : goal.loop-found-init
loop-found-init c = filling_start c.requires

pub unwrap-requires : goal.unwrap-requires
unwrap-requires c = filling_reads c.loop-found.invariant c.next_word.ensures

pub bounds-room-head : goal.bounds-room-head
bounds-room-head c =
    let k = close_room c.loop-found.invariant {found = c.in-Some.found} (search rules) (search rules) c.named_by.ensures c.in-Zero.is in
    omega arith

pub loop-found-smaller-in-Zero : goal.loop-found-smaller-in-Zero
loop-found-smaller-in-Zero c =
    let w = filling_word c.loop-found.invariant {found = c.in-Some.found} (search rules) in
    omega (arith, w.on, w.inside)

pub loop-found-preserved-in-Zero : goal.loop-found-preserved-in-Zero
loop-found-preserved-in-Zero c =
    filling_closes c.loop-found.invariant {found = c.in-Some.found} (search rules) (search rules) c.named_by.ensures c.in-Zero.is (search rules)

pub bounds-room-head-in-Device : goal.bounds-room-head-in-Device
bounds-room-head-in-Device c =
    let k = entry_room c.loop-found.invariant {found = c.in-Some.found} (search rules) (search rules) c.named_by.ensures c.in-Device.is in
    omega arith

pub loop-found-smaller : goal.loop-found-smaller
loop-found-smaller c =
    let w = filling_word c.loop-found.invariant {found = c.in-Some.found} (search rules) in
    omega (arith, w.on, w.inside)

pub loop-found-preserved : goal.loop-found-preserved
loop-found-preserved c =
    filling_enters c.loop-found.invariant {found = c.in-Some.found} (search rules) (search rules) c.named_by.ensures c.in-Device.is (search rules)

pub unreachable-requires : goal.unreachable-requires
unreachable-requires c =
    filling_outside c.loop-found.invariant {found = c.in-Some.found} (search rules) (search rules) c.named_by.ensures c.in-Outside.is

pub returns : goal.returns
returns c = filling_end c.loop-found.invariant (search rules)
