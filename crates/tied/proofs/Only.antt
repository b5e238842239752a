-- What follows from the contract of `least_plans` alone.
--
-- In order: two results that the contract allows are equal, the room included (`ties_only`); each case is given exactly where it holds, by
-- the same theorems of `hall`: a sheet's refusal (`refused_where`, `never_refused`, `else_refused`) and never for a plan room
-- (`never_small_room`), spent (`spent_where`, `spent_number`), never where the power sum is at most the budget (`never_spent`), none
-- (`none_where`), the plans (`plans_where`) and 51 (`short_where`); beside each case stands what the search answers for a plan room of 200
-- bytes (`beside_search`), whose plan is the first of the room (`search_first`); a finished list is the same under every larger budget
-- (`same_under_more`). Assumes nothing.
use mathlib.Core.Path.{◌≡◌, refl, sym, ◌∙◌, ap}
use mathlib.Core.Logic.{◌⊎◌, ◌↔◌, ◌≢◌}
use mathlib.Core.List.{List}
use Prim.Native.Nat.{ℕ, zero, suc, ◌≤◌, ◌<◌}
use native.Mathlib.Omega.{arith}
use lib.ListN.{length, take}
use lib.IntN.{ℤ}
use Rattle.hall.specs.Hall.{Hall, Plan}
use Rattle.hall.specs.Order.{cost_of, held_of, LeastOf, NoneOf}
use Rattle.hall.specs.Settings.{Satisfies}
use Rattle.hall.specs.Walk.{walk_hall}
use Rattle.hall.specs.Ranges.{SheetOf}
use Rattle.hall.specs.Bound.{bound_of}
use Rattle.hall.specs.Due.{devices_on, Reason}
use Rattle.hall.specs.Answer as search
use Rattle.hall.specs.Demands.{Answered}
use Rattle.hall.specs.Ties.{joined}
use Rattle.hall.specs.Listing.{Listing, listed, none, spent, refused, short, listing, list_numbers, list_room_after, AllTies}
use Rattle.hall.proofs.Listed.{lists_only}
use Rattle.hall.proofs.ListedWhere as lists
use Rattle.hall.proofs.WithSearch.{Beside, GivesFirst, with_search}
use Rattle.refusals.specs.Contract.{fault_of, kind_of}
use Rattle.refusals.specs.declared.Refusal.{Refusal}
use Rattle.refusals.specs.declared.Refusal.TheVariants.{SmallRoom}
use Rattle.refusals.proofs.Faults.{kind_fault}
use Rattle.plans.specs.Runs.{plans_from}
use Rattle.refusals.specs.declared.Refused.{Refused}
use Rattle.refusals.specs.declared.RoomRefusal.TheVariants.{BadSheet, ShortRoom}
use Rattle.std.specs.Prelude.{Result, Ok, Err}
use Rattle.tied.specs.declared.Tied.{Tied}
use Rattle.tied.specs.declared.Tied.TheVariants.{Plans, None, Spent}
use Rattle.tied.specs.Contract.{Hindrance, listing_of, plans_of, ListsTies}
use Rattle.tied.proofs.Numbers.{numbers_injective, tied_of, tied_is}

pub ties_only : (ws : List ℤ) (budget : ℕ) (before : List ℕ) (r s : Result Tied (Refused Hindrance)) (after after' : List ℕ) → ListsTies ws budget before r after → ListsTies ws budget before s after' → (r ≡ s) × (after ≡ after')
ties_only ws budget before r s after after' t u = (numbers_injective r s (t.says ∙ sym u.says), t.room ∙ sym u.room)

-- ── each case exactly where it holds ──
module _ (ws : List ℤ) (budget : ℕ) (before : List ℕ) (r : Result Tied (Refused Hindrance)) (after : List ℕ) (t : ListsTies ws budget before r after) where
  -- the plans in the room, and the list that they make
  abbrev plans : List Plan
  plans = plans_of ws r after

  abbrev list : Listing
  list = listing_of r plans

  list_is : listing ws budget (length before) ≡ list
  list_is = lists_only ws budget (length before) list t.claim

  -- the case of the list is the code's
  case : (a : Listing) → list ≡ a → r ≡ tied_of a
  case a e = tied_is r a (t.says ∙ ap list_numbers (list_is ∙ e))

  as_list : (s : Result Tied (Refused Hindrance)) → r ≡ s → list ≡ listing_of s plans
  as_list s e = ap (λ (x : Result Tied (Refused Hindrance)). listing_of x plans) e

  pub refused_where : (kind : Refusal) (place : ℕ) → (r ≡ Err (record { kind = BadSheet kind; place = place })) ↔ Reason (fault_of kind) place ws 200
  refused_where kind place =
      let x = lists.list_refused_where ws budget (length before) list t.claim (fault_of kind) place in (
        λ e. x.0 (as_list _ e),
        λ y. case (refused (fault_of kind) place) (x.1 y) ∙ ap (λ (k : Refusal). Err (record { kind = BadSheet k; place = place })) (kind_fault kind),
      )

  pub never_refused : (h : Hall) → SheetOf h ws 200 → (kind : Refusal) (place : ℕ) → r ≢ Err (record { kind = BadSheet kind; place = place })
  never_refused h s kind place e = lists.list_never_refused ws budget (length before) list t.claim h s (fault_of kind) place (as_list _ e)

  pub else_refused : ((h : Hall) → SheetOf h ws 200 → ⊥) → (kind : Refusal) × (place : ℕ) × (r ≡ Err (record { kind = BadSheet kind; place = place }))
  else_refused n = let x = lists.list_else_refused ws budget (length before) list t.claim n in (kind_of x.0, x.1, case (refused x.0 x.1) x.2)

  -- "after 16, which isn't given here"
  pub never_small_room : (place : ℕ) → r ≢ Err (record { kind = BadSheet SmallRoom; place = place })
  never_small_room place e = lists.never_small_room ws budget (length before) list t.claim place (as_list _ e)

  pub spent_number : (opened : ℕ) → r ≡ Ok (Spent opened) → opened ≡ budget
  spent_number opened e = lists.list_spent_number ws budget (length before) list t.claim opened (as_list _ e)

  module _ (h : Hall) (s : SheetOf h ws 200) where
    pub spent_where : (r ≡ Ok (Spent budget)) ↔ (budget < (walk_hall h).opened)
    spent_where =
        let x = lists.list_spent_where ws budget (length before) list t.claim h s in
        (λ e. x.0 (as_list _ e), λ l. case (spent budget) (x.1 l))

    pub never_spent : bound_of h ≤ budget → (opened : ℕ) → r ≢ Ok (Spent opened)
    never_spent l opened e = lists.list_never_spent ws budget (length before) list t.claim h s l opened (as_list _ e)

    module _ (allowed : (walk_hall h).opened ≤ budget) where
      pub none_where : (r ≡ Ok (None (walk_hall h).opened)) ↔ NoneOf Satisfies h
      none_where =
          let x = lists.list_none_where ws budget (length before) list t.claim h s allowed in
          (λ e. x.0 (as_list _ e), λ n. case (none (walk_hall h).opened) (x.1 n))

      module _ (p : Plan) (ps : List Plan) (least : LeastOf Satisfies h p) (ties : AllTies Satisfies h p ps) where
        pub plans_where : ((r ≡ Ok (Plans (cost_of h.costs p) (held_of p) (length ps) (walk_hall h).opened)) × (plans ≡ ps)) ↔ ((length ps ≤ 256) × (length (joined ps) ≤ length before))
        plans_where =
            let x = lists.listed_where ws budget (length before) list t.claim h s allowed p ps least ties in
            let a = listed (cost_of h.costs p) (held_of p) (walk_hall h).opened ps in
            (λ e. x.0 (as_list _ e.0 ∙ ap (listed (cost_of h.costs p) (held_of p) (walk_hall h).opened) e.1), λ l. (case a (x.1 l), stand (case a (x.1 l)) (x.1 l)))
          where
            stand : {cost held number opened : ℕ} → r ≡ Ok (Plans cost held number opened) → list ≡ listed cost held opened ps → plans ≡ ps
            stand e m = let same = sym (as_list _ e) ∙ m in cc

        pub short_where : (r ≡ Err (record { kind = ShortRoom; place = length before })) ↔ ((256 < length ps) ⊎ (length before < length (joined ps)))
        short_where =
            let x = lists.short_where ws budget (length before) list t.claim h s allowed p ps least ties in
            (λ e. x.0 (as_list _ e), λ l. case (short (length before)) (x.1 l))

  -- ── beside the search ──
  module _ (b : search.Answer) (d : Answered ws budget 200 b) where
    pub beside_search : Beside list b
    beside_search = with_search ws budget (length before) list b t.claim d

    pub search_first : (cost held number opened : ℕ) → r ≡ Ok (Plans cost held number opened) → b ≡ search.least cost held opened (take (devices_on ws) after)
    unfolding plans_from
    search_first cost held number opened e = go number (rw e at beside_search)
      where
        go : (many : ℕ) → GivesFirst cost held opened (plans_from many (devices_on ws) after) b → b ≡ search.least cost held opened (take (devices_on ws) after)
        go zero g = absurd (let e = g.first in let z : ◌≡◌ {A = ℕ} 0 1 = cc in omega arith)
        go (suc many) g = let e = g.first in let same : take (devices_on ws) after ≡ g.plan = cc in g.least ∙ rw same refl

-- ── what a budget does ──
pub same_under_more : (ws : List ℤ) (before : List ℕ) (budget more : ℕ) (r s : Result Tied (Refused Hindrance)) (after after' : List ℕ) → ListsTies ws budget before r after → ((opened : ℕ) → r ≢ Ok (Spent opened)) → budget ≤ more → ListsTies ws more before s after' → (r ≡ s) × (after ≡ after')
same_under_more ws before budget more r s after after' t n l u =
    let a = listing_of r (plans_of ws r after) in
    let b = listing_of s (plans_of ws s after') in
    let same = lists.list_same_under_more ws budget (length before) a t.claim more b u.claim (λ opened e. n opened (case ws budget before r after t (spent opened) e)) l in
    let is = list_is ws budget before r after t ∙ sym same ∙ sym (list_is ws more before s after' u) in
    (numbers_injective r s (t.says ∙ ap list_numbers is ∙ sym u.says), t.room ∙ ap (λ (a : Listing). list_room_after a before) is ∙ sym u.room)
