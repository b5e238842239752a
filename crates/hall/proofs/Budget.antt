-- Demand 3, what the budget does: "spent" exactly where the walk needs more; a larger budget never alters a finished answer.
--
-- The claims: `spent_exactly`, `spent_number`, `count_within`, `same_under_more`, `never_spent`, `refusal_stays`. Assumes nothing.
use mathlib.Core.Path.{◌≡◌, refl, sym, ◌∙◌, ap, subst}
use mathlib.Core.Logic.{◌↔◌}
use mathlib.Core.Bool.{Bool, true, false}
use mathlib.Core.List.{List}
use Prim.Native.Nat.{ℕ, ◌≤◌, ◌<◌, zero-le}
use native.Mathlib.Omega.{arith}
use lib.IntN.{ℤ}
use lib.Dec.{ltb}
use borrow.Author.Tests.{ltb-true, ltb-false, lt-ltb, le-ltb}
use Rattle.hall.specs.Hall.{Hall}
use Rattle.hall.specs.Walk.{Best, none_yet, so_far, Walked, walk_hall}
use Rattle.hall.specs.Ranges.{SheetOf}
use Rattle.hall.specs.Bound.{bound_of}
use Rattle.hall.specs.Reading.{Fault, Read, bad, got, decode}
use Rattle.hall.specs.Answer.{spent, refused, finished, within, answer_read, answer, nodes_of, Finished}
use Rattle.hall.proofs.Bound.{opens_most}
use Rattle.hall.proofs.Sheets.{accepted}

-- ── of a walk ──
finished_is : (h : Hall) (n : ℕ) (b : Best) → Finished (finished h n b)
finished_is h n none_yet = tt
finished_is h n (so_far p) = tt

finished_nodes : (h : Hall) (n : ℕ) (b : Best) → nodes_of (finished h n b) ≡ n
finished_nodes h n none_yet = refl
finished_nodes h n (so_far p) = refl

pub over : (h : Hall) (budget : ℕ) (w : Walked) → budget < w.opened → within h budget w ≡ spent budget
over h budget w l = rw (lt-ltb budget w.opened l)

pub enough : (h : Hall) (budget : ℕ) (w : Walked) → w.opened ≤ budget → within h budget w ≡ finished h w.opened w.best
enough h budget w l = rw (le-ltb budget w.opened l)

-- a walk under a budget is spent, and needs more; or it is finished, and does not
pub data Ending (h : Hall) (budget : ℕ) (w : Walked) : Type 0 where
  stops : budget < w.opened → within h budget w ≡ spent budget → Ending h budget w
  ends : w.opened ≤ budget → within h budget w ≡ finished h w.opened w.best → Ending h budget w

pub ending : (h : Hall) (budget : ℕ) (w : Walked) → Ending h budget w
ending h budget w = go (ltb budget w.opened) refl
  where
    go : (t : Bool) → ltb budget w.opened ≡ t → Ending h budget w
    go true u = let l = ltb-true budget w.opened u in stops l (over h budget w l)
    go false u = let l = ltb-false budget w.opened u in ends l (enough h budget w l)

-- ── of a sheet ──
module _ (ws : List ℤ) (room : ℕ) where
  pub answer_is : (h : Hall) (budget : ℕ) → SheetOf h ws room → answer ws budget room ≡ within h budget (walk_hall h)
  unfolding answer
  answer_is h budget s = ap (answer_read budget) (accepted room ws h s)

  pub spent_exactly : (h : Hall) (budget : ℕ) → SheetOf h ws room → (answer ws budget room ≡ spent budget) ↔ (budget < (walk_hall h).opened)
  spent_exactly h budget s = (λ e. go (ending h budget (walk_hall h)) (subst Finished (sym (answer_is h budget s) ∙ e)), λ l. answer_is h budget s ∙ over h budget (walk_hall h) l)
    where
      go : Ending h budget (walk_hall h) → (Finished (within h budget (walk_hall h)) → ⊥) → budget < (walk_hall h).opened
      go (stops l e) f = l
      go (ends l e) f = absurd (f (subst Finished (sym e) (finished_is h (walk_hall h).opened (walk_hall h).best)))

  pub spent_number : (budget n : ℕ) → answer ws budget room ≡ spent n → n ≡ budget
  unfolding answer
  spent_number budget n e = read (decode room ws) e
    where
      walked : (h : Hall) → Ending h budget (walk_hall h) → within h budget (walk_hall h) ≡ spent n → n ≡ budget
      walked h (stops l u) e = cc
      walked h (ends l u) e = absurd (subst Finished (sym u ∙ e) (finished_is h (walk_hall h).opened (walk_hall h).best))

      read : (x : Read Hall) → answer_read budget x ≡ spent n → n ≡ budget
      read (bad f i) e = absurd (subst Finished e tt)
      read (got h j) e = walked h (ending h budget (walk_hall h)) e

  pub count_within : (budget : ℕ) → nodes_of (answer ws budget room) ≤ budget
  unfolding answer
  count_within budget = read (decode room ws)
    where
      walked : (h : Hall) → Ending h budget (walk_hall h) → nodes_of (within h budget (walk_hall h)) ≤ budget
      walked h (stops l u) = rw u (omega arith)
      walked h (ends l u) = rw (u, finished_nodes h (walk_hall h).opened (walk_hall h).best) l

      read : (x : Read Hall) → nodes_of (answer_read budget x) ≤ budget
      read (bad f i) = zero-le
      read (got h j) = walked h (ending h budget (walk_hall h))

  pub same_under_more : (budget more : ℕ) → Finished (answer ws budget room) → budget ≤ more → answer ws more room ≡ answer ws budget room
  unfolding answer
  same_under_more budget more f l = read (decode room ws) f
    where
      walked : (h : Hall) → Ending h budget (walk_hall h) → Finished (within h budget (walk_hall h)) → within h more (walk_hall h) ≡ within h budget (walk_hall h)
      walked h (stops k u) f = absurd (subst Finished u f)
      walked h (ends k u) f = enough h more (walk_hall h) (omega arith) ∙ sym u

      read : (x : Read Hall) → Finished (answer_read budget x) → answer_read more x ≡ answer_read budget x
      read (bad c i) f = refl
      read (got h j) f = walked h (ending h budget (walk_hall h)) f

  -- where the power sum is at most the budget, spent is never said
  pub never_spent : (h : Hall) (budget : ℕ) → SheetOf h ws room → bound_of h ≤ budget → Finished (answer ws budget room)
  never_spent h budget s l =
      subst Finished (sym (answer_is h budget s ∙ enough h budget (walk_hall h) (omega (arith, opens_most h))))
      (finished_is h (walk_hall h).opened (walk_hall h).best)

  -- a refusal does not depend on the budget
  pub refusal_stays : (budget other : ℕ) (f : Fault) (i : ℕ) → answer ws budget room ≡ refused f i → answer ws other room ≡ refused f i
  unfolding answer
  refusal_stays budget other f i e = read (decode room ws) e
    where
      ended : (h : Hall) (n : ℕ) (b : Best) → finished h n b ≡ refused f i → answer_read other (bad f i) ≡ within h other (walk_hall h)
      ended h n none_yet e = absurd (let z : ◌≡◌ {A = ℕ} 0 1 = cc in omega arith)
      ended h n (so_far p) e = absurd (let z : ◌≡◌ {A = ℕ} 0 1 = cc in omega arith)

      walked : (h : Hall) → Ending h budget (walk_hall h) → within h budget (walk_hall h) ≡ refused f i → within h other (walk_hall h) ≡ refused f i
      walked h (stops l u) e = absurd (let z : ◌≡◌ {A = ℕ} 0 1 = cc in omega arith)
      walked h (ends l u) e = sym (ended h (walk_hall h).opened (walk_hall h).best (sym u ∙ e))

      read : (x : Read Hall) → answer_read budget x ≡ refused f i → answer_read other x ≡ refused f i
      read (bad c p) e = e
      read (got h j) e = walked h (ending h budget (walk_hall h)) e
