-- The three demands together: `answer` has `Answered`, and no other answer has; and the plan room afterwards.
--
-- The walk's theorems speak of its test, the demands of document 000's definition 2: `least_exact` and `none_exact` turn the one
-- into the other here. The claims: `answered`, `answered_only`; `room_length`. Assumes nothing.
use mathlib.Core.Path.{◌≡◌, refl, sym, ◌∙◌, ap, subst}
use mathlib.Core.List.{List}
use Prim.Native.Nat.{ℕ, ◌≤◌}
use native.Mathlib.Omega.{arith}
use lib.ListN.{length}
use lib.IntN.{ℤ}
use Rattle.lists.proofs.InFront.{room_as_long}
use Rattle.hall.specs.Hall.{Hall, Plan}
use Rattle.hall.specs.Walk.{Best, none_yet, so_far, walk_hall}
use Rattle.hall.specs.Ranges.{SheetOf}
use Rattle.hall.specs.Reading.{Read, bad, got, decode}
use Rattle.hall.specs.Answer.{Answer, least, none, spent, refused, finished, within, answer_read, answer, room_after}
use Rattle.hall.specs.Demands.{WalkCount, Answered}
use Rattle.hall.proofs.Satisfied.{least_exact, none_exact}
use Rattle.hall.proofs.Bound.{opens_most}
use Rattle.hall.proofs.Equality.{opens_bounded}
use Rattle.hall.proofs.Least.{best_least, least_best, none_best, best_none}
use Rattle.hall.proofs.Sums.{cost_sum, held_sum}
use Rattle.hall.proofs.Reasons.{Verdict, verdict, verdict_only}
use Rattle.hall.proofs.Budget.{Ending, stops, ends, ending, over, enough, answer_is}

module _ (ws : List ℤ) (budget room : ℕ) where
  -- ── the answer has it ──
  walk_count : (h : Hall) → SheetOf h ws room → (walk_hall h).opened ≤ budget → WalkCount h budget (walk_hall h).opened
  walk_count h s l = record { walks = refl; bounded = opens_bounded h s.ranges; allowed = l }

  finished_answered : (h : Hall) → SheetOf h ws room → (walk_hall h).opened ≤ budget → (b : Best) → (walk_hall h).best ≡ b → Answered ws budget room (finished h (walk_hall h).opened b)
  finished_answered h s l none_yet e = record { hall = h; sheet = s; plan = (none_exact h s.ranges.good).1 (none_best h e); count = walk_count h s l }
  finished_answered h s l (so_far p) e =
      let k = best_least h p e in
      let plan = k.sheet.plan in
      record { hall = h; sheet = s; plan = (least_exact h s.ranges.good p).1 k; total = cost_sum p plan; number = held_sum p plan; count = walk_count h s l }

  walk_answered : (h : Hall) → SheetOf h ws room → Ending h budget (walk_hall h) → Answered ws budget room (within h budget (walk_hall h))
  walk_answered h s (stops l e) = subst (Answered ws budget room) (sym e) (record { hall = h; sheet = s; count = refl; over = l; below = omega (arith, opens_most h) })
  walk_answered h s (ends l e) = subst (Answered ws budget room) (sym e) (finished_answered h s l (walk_hall h).best refl)

  pub answered : Answered ws budget room (answer ws budget room)
  unfolding answer
  answered = go (decode room ws) (verdict ws room)
    where
      go : (x : Read Hall) → Verdict ws room x → Answered ws budget room (answer_read budget x)
      go (bad f i) v = v
      go (got h j) v = walk_answered h v.0 (ending h budget (walk_hall h))

  -- ── and no other ──
  same_least : {cost cost' held held' opened opened' : ℕ} {p : Plan} → cost ≡ cost' → held ≡ held' → opened ≡ opened' → least cost held opened p ≡ least cost' held' opened' p
  same_least a b c = rw (a, b, c)

  pub answered_only : (a : Answer) → Answered ws budget room a → answer ws budget room ≡ a
  unfolding answer
  answered_only (least cost held opened p) s =
      let h = s.hall in
      let l : (walk_hall h).opened ≤ budget = let a = s.count.allowed in let c = s.count.walks in omega arith in
      let plan = s.plan.sheet.plan in
      answer_is ws room h budget s.sheet ∙ enough h budget (walk_hall h) l ∙ ap (finished h (walk_hall h).opened) (least_best h p ((least_exact h s.sheet.ranges.good p).0 s.plan))
      ∙ same_least (cost_sum p plan ∙ sym s.total) (held_sum p plan ∙ sym s.number) (sym s.count.walks)
  answered_only (none opened) s =
      let h = s.hall in
      let l : (walk_hall h).opened ≤ budget = let a = s.count.allowed in let c = s.count.walks in omega arith in
      answer_is ws room h budget s.sheet ∙ enough h budget (walk_hall h) l ∙ ap (finished h (walk_hall h).opened) (best_none h ((none_exact h s.sheet.ranges.good).0 s.plan)) ∙ rw s.count.walks
  answered_only (spent opened) s = answer_is ws room s.hall budget s.sheet ∙ over s.hall budget (walk_hall s.hall) s.over ∙ rw s.count
  answered_only (refused f i) s = ap (answer_read budget) (verdict_only ws room (bad f i) s)

-- ── the plan room ──
module _ (ws : List ℤ) (budget : ℕ) (room : List ℕ) where
  -- a least plan fits the room
  plan_fits : (cost held opened : ℕ) (p : Plan) → answer ws budget (length room) ≡ least cost held opened p → length p ≤ length room
  plan_fits cost held opened p e =
      let s = subst (Answered ws budget (length room)) e (answered ws budget (length room)) in
      let a = s.plan.sheet.plan.size in
      let b = s.sheet.fits in
      omega arith

  -- what is written fits; the first n bytes are then the plan, and the rest is as it was (`front_stands` and `rest_stays` of lists)
  pub room_length : length (room_after (answer ws budget (length room)) room) ≡ length room
  room_length = go (answer ws budget (length room)) refl
    where
      go : (a : Answer) → answer ws budget (length room) ≡ a → length (room_after a room) ≡ length room
      go (least cost held opened p) e = room_as_long p room (plan_fits cost held opened p e)
      go (none opened) e = refl
      go (spent opened) e = refl
      go (refused f i) e = refl
