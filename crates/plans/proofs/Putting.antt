-- A run put in order into a room, plan by plan.
--
-- The invariant (`Partway`): putting the plans that are left, in order, behind what is written leaves what putting all of them leaves. In
-- order: a room that is too short (`puts_short`); the start (`part_start`); one plan more, which has place (`part_place`) and leaves fewer
-- (`part_fewer`, `part_more`); the end (`part_end`); only one result (`put_only`). Assumes nothing.
use mathlib.Core.Path.{◌≡◌, refl, sym, ◌∙◌, ap}
use mathlib.Core.Bool.{Bool, true, false}
use mathlib.Core.List.{List, [], ◌∷◌, ◌++◌, append_assoc, append-nil}
use Prim.Native.Nat.{ℕ, ◌+◌, ◌-◌, ◌≤◌, ◌<◌}
use native.Mathlib.Omega.{arith}
use Rattle.std.specs.Prelude.{None, Some}
use lib.ListN.{length, take, drop, length-append, length-drop, take-append-drop, drop_of_length-le}
use lib.Seq.{length-take-le, take_all, drop-drop, take_at, drop_at}
use borrow.Author.Tests.{le-leb, lt-leb}
use Rattle.lists.specs.Lists.{in_front}
use Rattle.lists.proofs.InFront.{room_as_long}
use Rattle.hall.specs.Hall.{Plan}
use Rattle.hall.specs.Ties.{in_order, joined}
use Rattle.plans.specs.Runs.{plans_in, written_in, PutsInOrder, behind, first_of}
use Rattle.plans.proofs.Runs.{plans_short, order_short}
use Rattle.plans.proofs.Next.{behind_all, next_none, next_order}

pub puts_short : (n : ℕ) (run before : List ℕ) → length before < length run → PutsInOrder n run before false before
puts_short n run before l =
    let t = lt-leb (length run) (length before) l in
    record { says = sym t; room = rw t refl }

-- ── one list behind another, in a room from a place on ──
-- the room after a list was put there
abbrev pub put_at : (at : ℕ) (room front : List ℕ) → List ℕ
put_at at room front = take at room ++ in_front front (drop at room)

module _ (room front rest : List ℕ) (at : ℕ) (fits : at + (length front + length rest) ≤ length room) where
  put_length : length (put_at at room front) ≡ length room
  put_length =
      omega (
        arith,
        length-append (take at room) (in_front front (drop at room)),
        length-take-le at room (omega arith),
        room_as_long front (drop at room) (omega (arith, length-drop at room)),
        length-drop at room,
      )

  put_then : put_at (at + length front) (put_at at room front) rest ≡ put_at at room (front ++ rest)
  put_then =
      let begun = take at room ++ front in
      let rest_of = drop (length front) (drop at room) in
      let size : length begun ≡ at + length front = omega (arith, length-append (take at room) front, length-take-le at room (omega arith)) in
      rw (← append_assoc (take at room) front rest_of, take_at begun rest_of (at + length front) size, drop_at begun rest_of (at + length front) size)
      (append_assoc (take at room) front _ ∙ rw (drop-drop (length rest) (length front) (drop at room), append_assoc front rest, length-append front rest) refl)

-- ── the plans that are left ──
abbrev pub left : (n : ℕ) (run : List ℕ) (last : Plan) → List Plan
left n run last = in_order (behind last (plans_in n run))

pub record Partway (n : ℕ) (run before : List ℕ) (last : Plan) (at : ℕ) (room : List ℕ) : Type 0 where
  pub size : length room ≡ length before
  pub fits : at + length (joined (left n run last)) ≤ length room
  pub leaves : put_at at room (joined (left n run last)) ≡ in_front (joined (in_order (plans_in n run))) before

pub part_start : (n : ℕ) (run before : List ℕ) → length run ≤ length before → Partway n run before [] 0 before
part_start n run before l = record {
  size = refl;
  fits = rw (behind_all n run) (omega (arith, order_short (plans_in n run), plans_short n run));
  leaves = rw (behind_all n run) refl;
}

module _ (n : ℕ) (run before : List ℕ) (last : Plan) (at : ℕ) (room : List ℕ) (part : Partway n run before last at room) where
  pub part_end : length run ≤ length before → None ≡ first_of (behind last (plans_in n run)) → PutsInOrder n run before true room
  unfolding in_order joined
  part_end l told =
      let t = le-leb (length run) (length before) l in
      record { says = sym t; room = rw t (sym (take-append-drop at room) ∙ (rw (next_none last (plans_in n run) told) at part.leaves)) }

  module _ (next : Plan) (told : Some next ≡ first_of (behind last (plans_in n run))) where
    order : left n run last ≡ next ∷ left n run next
    order = next_order last (plans_in n run) next told

    pub part_fewer : length (left n run next) < length (left n run last)
    part_fewer = omega (arith, ap length order)

    place : at + (length next + length (joined (left n run next))) ≤ length room
    unfolding joined
    place = omega (arith, part.fits, ap (λ (ps : List Plan). length (joined ps)) order, length-append next (joined (left n run next)))

    pub part_place : at + length next ≤ length before
    part_place = omega (arith, part.size, place)

    -- what comes back of the room, of which the part from the place on was lent on
    module _ (out : List ℕ) (wrote : out ≡ written_in next (take (length room - at) (drop at room))) where
      back : take at room ++ (out ++ drop (length room - at) (drop at room)) ≡ put_at at room next
      unfolding written_in
      back =
          let size = length-drop at room in
          let t = le-leb (length next) (length (drop at room)) (omega (arith, place)) in
          rw (wrote, take_all (length room - at) (drop at room) (omega arith), t, drop_of_length-le (drop at room) {i = length room - at} (omega arith), append-nil) refl

      pub part_more : Partway n run before next (at + length next) (take at room ++ (out ++ drop (length room - at) (drop at room)))
      unfolding joined
      part_more =
          let size = put_length room next (joined (left n run next)) at place in
          rw back
          record {
            size = size ∙ part.size;
            fits = omega (arith, size, place);
            leaves = put_then room next (joined (left n run next)) at place ∙ (rw order at part.leaves);
          }

-- two results that the contract allows are equal, the room included
pub put_only : {n : ℕ} {run before : List ℕ} (r s : Bool) (after after' : List ℕ) → PutsInOrder n run before r after → PutsInOrder n run before s after' → (r ≡ s) × (after ≡ after')
put_only r s after after' x y = (x.says ∙ sym y.says, x.room ∙ sym y.room)
