-- Each case of the list is given exactly where it holds. From the claim alone: of whatever answer has `Lists`.
--
-- In order: a refusal, exactly for its reason (`list_refused_where`), of a sheet of a hall never (`list_never_refused`), of any other
-- always (`list_else_refused`), and never for a plan room (`never_small_room`); spent gives the budget (`list_spent_number`), and a
-- larger budget never alters a finished list (`list_same_under_more`); spent, exactly where the walk of a sheet's hall needs more
-- (`list_spent_where`), never where the power sum is at most the budget (`list_never_spent`); where the budget allows the walk, none
-- (`list_none_where`), the list exactly where it fits (`listed_where`), and 51 exactly where it does not (`short_where`). Assumes
-- nothing.
use mathlib.Core.Path.{◌≡◌, refl, sym, ◌∙◌, ap, subst}
use mathlib.Core.Logic.{◌⊎◌, inl, inr, ◌↔◌, ◌≢◌}
use mathlib.Core.Bool.{true, false}
use mathlib.Core.List.{List}
use Prim.Native.Nat.{ℕ, ◌≤◌, ◌<◌}
use native.Mathlib.Omega.{arith}
use lib.ListN.{length}
use lib.IntN.{ℤ}
use Rattle.lists.specs.Lists.{Each}
use Rattle.lists.proofs.Cases.{test}
use Rattle.hall.specs.Hall.{Hall, Plan}
use Rattle.hall.specs.Order.{cost_of, held_of, MeetsSheet, LeastOf, NoneOf}
use Rattle.hall.specs.Settings.{Satisfies}
use Rattle.hall.specs.Walk.{walk_hall}
use Rattle.hall.specs.Ranges.{RuleInRange, SheetOf}
use Rattle.hall.specs.Bound.{bound_of}
use Rattle.hall.specs.Reading.{Fault, small_room, Read, bad, got, decode}
use Rattle.hall.specs.Due.{Reason}
use Rattle.hall.specs.Ties.{equal_to, joined}
use Rattle.hall.specs.Listing.{Listing, listed, none, spent, refused, short, fits, listed_by, finished_list, list_within, list_read, listing, AllTies, Lists}
use Rattle.hall.proofs.Satisfied.{least_exact, none_exact}
use Rattle.hall.proofs.Bound.{opens_most}
use Rattle.hall.proofs.Least.{least_best, best_none}
use Rattle.hall.proofs.EveryTie.{all_ties, all_ties_only}
use Rattle.hall.proofs.Words.{words_injective}
use Rattle.hall.proofs.Reasons.{decoded, verdict_only}
use Rattle.hall.proofs.Budget.{Ending, stops, ends, ending}
use Rattle.hall.proofs.Listed.{ties_exact, fits_exact, over_exact, list_over, list_enough, list_is, lists_only}

module _ (ws : List ℤ) (budget room : ℕ) (a : Listing) (claim : Lists ws budget room a) where
  is : listing ws budget room ≡ a
  is = lists_only ws budget room a claim

  -- ── the sheet's refusals ──
  pub list_refused_where : (f : Fault) (i : ℕ) → (a ≡ refused f i) ↔ Reason f i ws 200
  list_refused_where f i = (λ e. subst (Lists ws budget room) e claim, λ r. sym is ∙ lists_only ws budget room (refused f i) r)

  pub list_never_refused : (h : Hall) → SheetOf h ws 200 → (f : Fault) (i : ℕ) → a ≢ refused f i
  list_never_refused h s f i e =
      let r = verdict_only ws 200 (bad f i) ((list_refused_where f i).0 e) in
      let g = verdict_only ws 200 (got h (length ws)) (s, refl) in
      let z : ◌≡◌ {A = ℕ} 0 1 = cc in
      omega arith

  pub list_else_refused : ((h : Hall) → SheetOf h ws 200 → ⊥) → (f : Fault) × (i : ℕ) × (a ≡ refused f i)
  unfolding listing
  list_else_refused n = go (decode 200 ws) refl is
    where
      go : (x : Read Hall) → decode 200 ws ≡ x → list_read budget room x ≡ a → (f : Fault) × (i : ℕ) × (a ≡ refused f i)
      go (bad f i) u e = (f, i, sym e)
      go (got h j) u e = absurd (n h (decoded ws 200 h j u))

  -- 16 is never given: no hall of a sheet has more than 200 devices
  pub never_small_room : (place : ℕ) → a ≢ refused small_room place
  never_small_room place e =
      let r = subst (Lists ws budget room) e claim in
      let n = r.ranges.devices in
      let m = r.small in
      omega arith

  -- ── the budget ──
  pub list_spent_number : (n : ℕ) → a ≡ spent n → n ≡ budget
  list_spent_number n e = (subst (Lists ws budget room) e claim).count

  pub list_same_under_more : (more : ℕ) (b : Listing) → Lists ws more room b → ((n : ℕ) → a ≢ spent n) → budget ≤ more → b ≡ a
  unfolding listing
  list_same_under_more more b other f l = sym (lists_only ws more room b other) ∙ read (decode 200 ws) is ∙ is
    where
      walked : (h : Hall) → Ending h budget (walk_hall h) → list_within h budget room (walk_hall h) ≡ a → list_within h more room (walk_hall h) ≡ list_within h budget room (walk_hall h)
      walked h (stops k u) e = absurd (f budget (sym e ∙ list_over h budget room (walk_hall h) k))
      walked h (ends k u) e = list_enough h more room (walk_hall h) (omega arith) ∙ sym (list_enough h budget room (walk_hall h) k)

      read : (x : Read Hall) → list_read budget room x ≡ a → list_read more room x ≡ list_read budget room x
      read (bad c i) e = refl
      read (got h j) e = walked h (ending h budget (walk_hall h)) e

  -- ── of an accepted sheet ──
  module _ (h : Hall) (s : SheetOf h ws 200) where
    good : Each (RuleInRange (length h.costs)) h.rules
    good = s.ranges.good

    -- it is a sheet of no other hall
    one_hall : (g : Hall) → SheetOf g ws 200 → g ≡ h
    one_hall g t = words_injective g h (sym t.sheet ∙ s.sheet)

    pub list_spent_where : (a ≡ spent budget) ↔ (budget < (walk_hall h).opened)
    list_spent_where = (
      λ e. let c = subst (Lists ws budget room) e claim in subst (λ (g : Hall). budget < (walk_hall g).opened) (one_hall c.hall c.sheet) c.over,
      λ l. sym is ∙ list_is ws budget room h s ∙ list_over h budget room (walk_hall h) l,
    )

    -- where the power sum is at most the budget
    pub list_never_spent : bound_of h ≤ budget → (n : ℕ) → a ≢ spent n
    list_never_spent l n e =
        let c = subst (Lists ws budget room) e claim in
        let m = list_spent_where.0 (e ∙ rw c.count) in
        omega (arith, opens_most h)

    module _ (allowed : (walk_hall h).opened ≤ budget) where
      ended : a ≡ finished_list h room (walk_hall h).opened (walk_hall h).best
      ended = sym is ∙ list_is ws budget room h s ∙ list_enough h budget room (walk_hall h) allowed

      pub list_none_where : (a ≡ none (walk_hall h).opened) ↔ NoneOf Satisfies h
      list_none_where = (
        λ e. let c = subst (Lists ws budget room) e claim in subst (NoneOf Satisfies) (one_hall c.hall c.sheet) c.plan,
        λ n. ended ∙ ap (finished_list h room (walk_hall h).opened) (best_none h ((none_exact h good).0 n)),
      )

      module _ (p : Plan) (ps : List Plan) (least : LeastOf Satisfies h p) (ties : AllTies Satisfies h p ps) where
        with_ties : a ≡ listed_by (fits room ps) room (cost_of h.costs p) (held_of p) (walk_hall h).opened ps
        with_ties =
            let best = least_best h p ((least_exact h good p).0 least) in
            let same = all_ties_only MeetsSheet h p (equal_to h p) ps (all_ties h p best) ((ties_exact h good p ps).0 ties) in
            ended ∙ ap (finished_list h room (walk_hall h).opened) best ∙ rw same refl

        pub listed_where : (a ≡ listed (cost_of h.costs p) (held_of p) (walk_hall h).opened ps) ↔ ((length ps ≤ 256) × (length (joined ps) ≤ room))
        listed_where = (
          λ e. let c = subst (Lists ws budget room) e claim in (c.few, c.fit),
          λ l. with_ties ∙ rw ((fits_exact room ps).1 l) refl,
        )

        pub short_where : (a ≡ short room) ↔ ((256 < length ps) ⊎ (room < length (joined ps)))
        short_where = (λ e. go (test (fits room ps)) e, λ l. with_ties ∙ rw ((over_exact room ps).1 l) refl)
          where
            go : (fits room ps ≡ true) ⊎ (fits room ps ≡ false) → a ≡ short room → (256 < length ps) ⊎ (room < length (joined ps))
            go (inl u) e =
                let v = sym (listed_where.1 ((fits_exact room ps).0 u)) ∙ e in
                absurd (let z : ◌≡◌ {A = ℕ} 0 1 = cc in omega arith)
            go (inr u) e = (over_exact room ps).0 u
