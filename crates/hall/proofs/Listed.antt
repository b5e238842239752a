-- The list of the least plans, 02, request 5: `listing` has `Lists`, and no other answer has; and the lent room afterwards.
--
-- In order: all ties, for two meanings of "meet" that are the same (`ties_exact`); few enough and short enough, as tests and as
-- numbers (`fits_exact`, `over_exact`); what the budget does (`list_over`, `list_enough`); the list of a hall's sheet (`list_is`). The
-- claims: `lists`, `lists_only`; `list_room_length`. That the walk opens every tie is EveryTie. Assumes nothing.
use mathlib.Core.Path.{◌≡◌, refl, sym, ◌∙◌, ap, subst}
use mathlib.Core.Logic.{◌⊎◌, inl, inr, ◌↔◌}
use mathlib.Core.Bool.{Bool, true, false}
use mathlib.Core.List.{List}
use Prim.Native.Nat.{ℕ, ◌≤◌, ◌<◌}
use native.Mathlib.Omega.{arith}
use lib.ListN.{length}
use lib.IntN.{ℤ}
use lib.Dec.{leb}
use borrow.Author.Tests.{leb-true, leb-false, le-leb, lt-ltb, le-ltb}
use Rattle.lists.specs.Lists.{Each}
use Rattle.lists.proofs.Cases.{test, fails, and_both}
use Rattle.lists.proofs.InFront.{room_as_long}
use Rattle.hall.specs.Hall.{Hall, Plan}
use Rattle.hall.specs.Order.{MeetsSheet}
use Rattle.hall.specs.Settings.{Satisfies}
use Rattle.hall.specs.Walk.{Walked, walk_hall}
use Rattle.hall.specs.Ranges.{RuleInRange, SheetOf}
use Rattle.hall.specs.Reading.{Fault, bad}
use Rattle.hall.specs.Due.{Reason}
use Rattle.hall.specs.Answer as search
use Rattle.hall.specs.Ties.{equal_to, joined}
use Rattle.hall.specs.Demands.{WalkCount, SaysLeast, SaysNone, SaysSpent, Answered}
use Rattle.hall.specs.Listing.{Listing, listed, none, spent, refused, short, fits, listed_by, finished_list, list_within, list_read, listing, list_room_after, AllTies, Lists}
use Rattle.hall.proofs.Satisfied.{satisfies_exact, least_exact, none_exact}
use Rattle.hall.proofs.Least.{least_best, best_none}
use Rattle.hall.proofs.EveryTie.{all_ties, all_ties_only}
use Rattle.hall.proofs.Sums.{cost_sum, held_sum}
use Rattle.hall.proofs.Sheets.{accepted}
use Rattle.hall.proofs.Reasons.{verdict_only}
use Rattle.hall.proofs.Answers.{answered}

-- ── all ties, for two meanings that are the same ──
module _ (A B : Hall → Plan → Type 0) (h : Hall) (same : (p : Plan) → A h p ↔ B h p) where
  ties_same : (p : Plan) (ps : List Plan) → AllTies A h p ps ↔ AllTies B h p ps
  ties_same p ps = (
    λ t. record { every = λ q m. t.every q ((same q).1 m); only = λ q i. let o = t.only q i in ((same q).0 o.0, o.1, o.2); ranked = t.ranked },
    λ t. record { every = λ q m. t.every q ((same q).0 m); only = λ q i. let o = t.only q i in ((same q).1 o.0, o.1, o.2); ranked = t.ranked },
  )

pub ties_exact : (h : Hall) → Each (RuleInRange (length h.costs)) h.rules → (p : Plan) (ps : List Plan) → AllTies Satisfies h p ps ↔ AllTies MeetsSheet h p ps
ties_exact h good = ties_same Satisfies MeetsSheet h (satisfies_exact h good)

-- ── few enough, and short enough ──
module _ (room : ℕ) (ps : List Plan) where
  pub fits_exact : (fits room ps ≡ true) ↔ ((length ps ≤ 256) × (length (joined ps) ≤ room))
  unfolding fits
  fits_exact = (
    λ e. let a = and_both (leb (length ps) 256) (leb (length (joined ps)) room) e in (leb-true (length ps) 256 a.0, leb-true (length (joined ps)) room a.1),
    λ l. rw (le-leb (length ps) 256 l.0, le-leb (length (joined ps)) room l.1) refl,
  )

  pub over_exact : (fits room ps ≡ false) ↔ ((256 < length ps) ⊎ (room < length (joined ps)))
  unfolding fits
  over_exact = (to (test (leb (length ps) 256)), from)
    where
      to : (leb (length ps) 256 ≡ true) ⊎ (leb (length ps) 256 ≡ false) → fits room ps ≡ false → (256 < length ps) ⊎ (room < length (joined ps))
      to (inl u) e = inr (leb-false (length (joined ps)) room (rw u at e))
      to (inr u) e = inl (leb-false (length ps) 256 u)

      from : (256 < length ps) ⊎ (room < length (joined ps)) → fits room ps ≡ false
      from (inl l) = fails (λ t. let f = (fits_exact.0 t).0 in omega arith)
      from (inr l) = fails (λ t. let f = (fits_exact.0 t).1 in omega arith)

-- ── what the budget does ──
module _ (h : Hall) (budget room : ℕ) (w : Walked) where
  pub list_over : budget < w.opened → list_within h budget room w ≡ spent budget
  list_over l = rw (lt-ltb budget w.opened l)

  pub list_enough : w.opened ≤ budget → list_within h budget room w ≡ finished_list h room w.opened w.best
  list_enough l = rw (le-ltb budget w.opened l)

-- ── of a sheet ──
module _ (ws : List ℤ) (budget room : ℕ) where
  pub list_is : (h : Hall) → SheetOf h ws 200 → listing ws budget room ≡ list_within h budget room (walk_hall h)
  unfolding listing
  list_is h s = ap (list_read budget room) (accepted 200 ws h s)

  finished_is : (h : Hall) → SheetOf h ws 200 → (opened : ℕ) → WalkCount h budget opened → listing ws budget room ≡ finished_list h room opened (walk_hall h).best
  finished_is h s opened c =
      let l : (walk_hall h).opened ≤ budget = let a = c.allowed in let w = c.walks in omega arith in
      list_is h s ∙ list_enough h budget room (walk_hall h) l ∙ ap (λ (n : ℕ). finished_list h room n (walk_hall h).best) (sym c.walks)

  -- ── what it is, where the search's demands are known ──
  where_least : {cost held opened : ℕ} {p : Plan} (s : SaysLeast ws budget 200 cost held opened p) → listing ws budget room ≡ listed_by (fits room (equal_to s.hall p)) room cost held opened (equal_to s.hall p)
  where_least {cost} {held} {opened} {p} s =
      let h = s.hall in
      let plan = s.plan.sheet.plan in
      let best = least_best h p ((least_exact h s.sheet.ranges.good p).0 s.plan) in
      finished_is h s.sheet opened s.count ∙ ap (finished_list h room opened) best
      ∙ rw (cost_sum p plan ∙ sym s.total, held_sum p plan ∙ sym s.number) refl

  where_none : {opened : ℕ} → SaysNone ws budget 200 opened → listing ws budget room ≡ none opened
  where_none {opened} s =
      let h = s.hall in
      finished_is h s.sheet opened s.count ∙ ap (finished_list h room opened) (best_none h ((none_exact h s.sheet.ranges.good).0 s.plan))

  where_spent : {opened : ℕ} → SaysSpent ws budget 200 opened → listing ws budget room ≡ spent opened
  where_spent s = list_is s.hall s.sheet ∙ list_over s.hall budget room (walk_hall s.hall) s.over ∙ rw s.count

  where_refused : (f : Fault) (i : ℕ) → Reason f i ws 200 → listing ws budget room ≡ refused f i
  unfolding listing
  where_refused f i r = ap (list_read budget room) (verdict_only ws 200 (bad f i) r)

  -- ── the list has it: by what the search answers ──
  -- the ties of a least plan are those that the walk opens, in order
  equal_ties : {cost held opened : ℕ} {p : Plan} (s : SaysLeast ws budget 200 cost held opened p) → AllTies Satisfies s.hall p (equal_to s.hall p)
  equal_ties {p = p} s =
      let h = s.hall in
      let good = s.sheet.ranges.good in
      (ties_exact h good p (equal_to h p)).1 (all_ties h p (least_best h p ((least_exact h good p).0 s.plan)))

  pub lists : Lists ws budget room (listing ws budget room)
  lists = go (search.answer ws budget 200) (answered ws budget 200)
    where
      sized : {cost held opened : ℕ} {p : Plan} (s : SaysLeast ws budget 200 cost held opened p) (t : Bool) → fits room (equal_to s.hall p) ≡ t → Lists ws budget room (listed_by t room cost held opened (equal_to s.hall p))
      sized {p = p} s true u = let l = (fits_exact room (equal_to s.hall p)).0 u in record { plan = p; least = s; list = equal_ties s; few = l.0; fit = l.1 }
      sized {cost} {held} {opened} {p} s false u =
          record { plan = p; cost = cost; held = held; opened = opened; least = s; plans = equal_to s.hall p; list = equal_ties s; over = (over_exact room (equal_to s.hall p)).0 u; at_end = refl }

      go : (a : search.Answer) → Answered ws budget 200 a → Lists ws budget room (listing ws budget room)
      go (search.least cost held opened p) s = subst (Lists ws budget room) (sym (where_least s)) (sized s (fits room (equal_to s.hall p)) refl)
      go (search.none opened) s = subst (Lists ws budget room) (sym (where_none s)) s
      go (search.spent opened) s = subst (Lists ws budget room) (sym (where_spent s)) s
      go (search.refused f i) s = subst (Lists ws budget room) (sym (where_refused f i s)) s

  -- ── and no other ──
  only_ties : {cost held opened : ℕ} {p : Plan} (s : SaysLeast ws budget 200 cost held opened p) (ps : List Plan) → AllTies Satisfies s.hall p ps → equal_to s.hall p ≡ ps
  only_ties {p = p} s ps t = all_ties_only Satisfies s.hall p (equal_to s.hall p) ps (equal_ties s) t

  pub lists_only : (a : Listing) → Lists ws budget room a → listing ws budget room ≡ a
  lists_only (listed cost held opened ps) s =
      let f = (fits_exact room ps).1 (s.few, s.fit) in
      where_least s.least ∙ rw (only_ties s.least ps s.list, f) refl
  lists_only (none opened) s = where_none s
  lists_only (spent opened) s = where_spent s
  lists_only (refused f i) s = where_refused f i s
  lists_only (short place) s =
      let f = (over_exact room s.plans).1 s.over in
      where_least s.least ∙ rw (only_ties s.least s.plans s.list, f, s.at_end) refl

-- ── the room ──
-- what is written fits; the first bytes are then the plans, and the rest is as it was (`front_stands` and `rest_stays` of lists)
pub list_room_length : (ws : List ℤ) (budget : ℕ) (room : List ℕ) → length (list_room_after (listing ws budget (length room)) room) ≡ length room
list_room_length ws budget room = go (listing ws budget (length room)) (lists ws budget (length room))
  where
    go : (a : Listing) → Lists ws budget (length room) a → length (list_room_after a room) ≡ length room
    go (listed cost held opened ps) s = room_as_long (joined ps) room s.fit
    go (none opened) s = refl
    go (spent opened) s = refl
    go (refused f i) s = refl
    go (short place) s = refl
