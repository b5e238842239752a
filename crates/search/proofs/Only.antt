-- What follows from the contract of `least_plan` alone.
--
-- In order: equal numbers, equal answers (`numbers_injective`); two results that the contract allows are equal, the room included
-- (`finds_only`); each case is given exactly where it holds, by the same theorems of `hall`: a refusal (`refused_where`,
-- `never_refused`, `else_refused`), the least plan (`least_where`), none (`none_where`), spent (`spent_where`); a finished answer is
-- the same under every larger budget (`same_under_more`); where the power sum is at most the budget, spent is never said
-- (`never_spent`). Assumes nothing.
use mathlib.Core.Path.{◌≡◌, refl, sym, ◌∙◌, ap}
use mathlib.Core.Logic.{◌↔◌}
use mathlib.Core.List.{List, []}
use Prim.Native.Nat.{ℕ, ◌≤◌, ◌<◌}
use native.Mathlib.Omega.{arith}
use lib.ListN.{length, take}
use lib.IntN.{ℤ}
use Rattle.hall.specs.Hall.{Hall, Plan}
use Rattle.hall.specs.Order.{cost_of, held_of, LeastOf, NoneOf}
use Rattle.hall.specs.Settings.{Satisfies}
use Rattle.hall.specs.Walk.{walk_hall}
use Rattle.hall.specs.Ranges.{SheetOf}
use Rattle.hall.specs.Bound.{bound_of}
use Rattle.hall.specs.Due.{devices_on, Reason}
use Rattle.hall.specs.Answer as hall
use Rattle.hall.specs.Answer.{answer, numbers, room_after}
use Rattle.hall.proofs.Budget as budgets
use Rattle.hall.proofs.Exactly as exactly
use Rattle.refusals.specs.Contract.{fault_of, kind_of}
use Rattle.refusals.specs.declared.Refusal.{Refusal}
use Rattle.refusals.specs.declared.Refused.{Refused}
use Rattle.refusals.proofs.Faults.{kind_fault}
use Rattle.std.specs.Prelude.{Result, Ok, Err}
use Rattle.search.specs.declared.Answer.{Answer}
use Rattle.search.specs.declared.Answer.TheVariants.{Least, None, Spent}
use Rattle.search.specs.Contract.{numbers_of, answer_of, Finds}
use Rattle.search.proofs.Finds.{result_of, match}

same_refusal : (kind : Refusal) (place : ℕ) → result_of (hall.refused (fault_of kind) place) ≡ Err (record { kind = kind; place = place })
same_refusal kind place = ap (λ k. Err (record { kind = k; place = place })) (kind_fault kind)

-- the definitions' answer has the code's numbers, and its case is the code's
same_numbers : (r : Result Answer (Refused Refusal)) (plan : Plan) → numbers_of r ≡ numbers (answer_of r plan)
same_numbers (Ok (Least cost held opened)) plan = refl
same_numbers (Ok (None opened)) plan = refl
same_numbers (Ok (Spent opened)) plan = refl
same_numbers (Err e) plan = refl

same_case : (r : Result Answer (Refused Refusal)) (plan : Plan) → result_of (answer_of r plan) ≡ r
same_case (Ok (Least cost held opened)) plan = refl
same_case (Ok (None opened)) plan = refl
same_case (Ok (Spent opened)) plan = refl
same_case (Err e) plan = same_refusal e.kind e.place

case : (r : Result Answer (Refused Refusal)) (plan : Plan) (a : hall.Answer) → answer_of r plan ≡ a → r ≡ result_of a
case r plan a e = sym (same_case r plan) ∙ ap result_of e

pub numbers_injective : (r s : Result Answer (Refused Refusal)) → numbers_of r ≡ numbers_of s → r ≡ s
numbers_injective r s e = match r (answer_of s []) (e ∙ same_numbers s []) ∙ same_case s []

pub finds_only : (ws : List ℤ) (budget : ℕ) (before : List ℕ) (r s : Result Answer (Refused Refusal)) (after after' : List ℕ) → Finds ws budget before r after → Finds ws budget before s after' → (r ≡ s) × (after ≡ after')
finds_only ws budget before r s after after' h k = (numbers_injective r s (h.says ∙ sym k.says), h.room ∙ sym k.room)

-- ── each case exactly where it holds ──
module _ (ws : List ℤ) (budget : ℕ) (before : List ℕ) (r : Result Answer (Refused Refusal)) (after : List ℕ) (f : Finds ws budget before r after) where
  -- the plan in the first n bytes of the room
  abbrev plan : Plan
  plan = take (devices_on ws) after

  pub refused_where : (kind : Refusal) (place : ℕ) → (r ≡ Err (record { kind = kind; place = place })) ↔ Reason (fault_of kind) place ws (length before)
  refused_where kind place =
      let x = exactly.refused_where ws budget (length before) (answer_of r plan) f.demands (fault_of kind) place in (
        λ e. x.0 (ap (λ (s : Result Answer (Refused Refusal)). answer_of s plan) e),
        λ y. case r plan (hall.refused (fault_of kind) place) (x.1 y) ∙ same_refusal kind place,
      )

  pub never_refused : (h : Hall) → SheetOf h ws (length before) → (kind : Refusal) (place : ℕ) → r ≡ Err (record { kind = kind; place = place }) → ⊥
  never_refused h s kind place e = exactly.never_refused ws budget (length before) (answer_of r plan) f.demands h s (fault_of kind) place (ap (λ (s : Result Answer (Refused Refusal)). answer_of s plan) e)

  pub else_refused : ((h : Hall) → SheetOf h ws (length before) → ⊥) → (kind : Refusal) × (place : ℕ) × (r ≡ Err (record { kind = kind; place = place }))
  else_refused n = let x = exactly.else_refused ws budget (length before) (answer_of r plan) f.demands n in (kind_of x.0, x.1, case r plan (hall.refused x.0 x.1) x.2)

  module _ (h : Hall) (s : SheetOf h ws (length before)) where
    pub spent_where : (r ≡ Ok (Spent budget)) ↔ (budget < (walk_hall h).opened)
    spent_where =
        let x = exactly.spent_where ws budget (length before) (answer_of r plan) f.demands h s in
        (λ e. x.0 (ap (λ (s : Result Answer (Refused Refusal)). answer_of s plan) e), λ l. case r plan (hall.spent budget) (x.1 l))

    module _ (allowed : (walk_hall h).opened ≤ budget) where
      pub least_where : (p : Plan) → ((r ≡ Ok (Least (cost_of h.costs p) (held_of p) (walk_hall h).opened)) × (plan ≡ p)) ↔ LeastOf Satisfies h p
      least_where p =
          let x = exactly.least_where ws budget (length before) (answer_of r plan) f.demands h s allowed p in
          let a = hall.least (cost_of h.costs p) (held_of p) (walk_hall h).opened p in
          (λ e. x.0 (rw (e.0, e.1)), λ l. (case r plan a (x.1 l), stands (case r plan a (x.1 l)) (x.1 l)))
        where
          stands : {cost held opened : ℕ} → r ≡ Ok (Least cost held opened) → answer_of r plan ≡ hall.least cost held opened p → plan ≡ p
          stands e m = cc

      pub none_where : (r ≡ Ok (None (walk_hall h).opened)) ↔ NoneOf Satisfies h
      none_where =
          let x = exactly.none_where ws budget (length before) (answer_of r plan) f.demands h s allowed in
          (λ e. x.0 (ap (λ (s : Result Answer (Refused Refusal)). answer_of s plan) e), λ n. case r plan (hall.none (walk_hall h).opened) (x.1 n))

-- ── what a budget does ──
-- a call that was not spent finished the search
not_spent : (r : Result Answer (Refused Refusal)) (a : hall.Answer) → ((opened : ℕ) → r ≡ Ok (Spent opened) → ⊥) → r ≡ result_of a → hall.Finished a
not_spent r (hall.least cost held opened p) n m = tt
not_spent r (hall.none opened) n m = tt
not_spent r (hall.spent opened) n m = n opened m
not_spent r (hall.refused f place) n m = tt

module _ (ws : List ℤ) (before : List ℕ) where
  pub same_under_more : (budget more : ℕ) (r s : Result Answer (Refused Refusal)) (after after' : List ℕ) → Finds ws budget before r after → ((opened : ℕ) → r ≡ Ok (Spent opened) → ⊥) → budget ≤ more → Finds ws more before s after' → (r ≡ s) × (after ≡ after')
  same_under_more budget more r s after after' h n l k =
      let a = budgets.same_under_more ws (length before) budget more (not_spent r (answer ws budget (length before)) n (match r (answer ws budget (length before)) h.says)) l in
      (numbers_injective r s (h.says ∙ ap numbers (sym a) ∙ sym k.says), h.room ∙ ap (λ x. room_after x before) (sym a) ∙ sym k.room)

  pub never_spent : (h : Hall) (budget : ℕ) (r : Result Answer (Refused Refusal)) (after : List ℕ) → SheetOf h ws (length before) → bound_of h ≤ budget → Finds ws budget before r after → (opened : ℕ) → r ≡ Ok (Spent opened) → ⊥
  never_spent h budget r after s l f opened e = go (answer ws budget (length before)) (match r (answer ws budget (length before)) f.says) (budgets.never_spent ws (length before) h budget s l)
    where
      go : (a : hall.Answer) → r ≡ result_of a → hall.Finished a → ⊥
      go (hall.least cost held o p) m q = let z : ◌≡◌ {A = ℕ} 0 1 = cc in omega arith
      go (hall.none o) m q = let z : ◌≡◌ {A = ℕ} 0 1 = cc in omega arith
      go (hall.spent o) m q = q
      go (hall.refused g place) m q = let z : ◌≡◌ {A = ℕ} 0 1 = cc in omega arith
