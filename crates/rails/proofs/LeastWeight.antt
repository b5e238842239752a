-- FOR THE ANALYST: what a MaxSAT solver says of the clauses is what a finished search says of the sheet. 02, request 4.
--
-- The argument: settings that meet the hard clauses and plans that meet the sheet are the same, at the same cost (`encodes` of
-- Encoding), and the least plan is first of all a cheapest one. In order: the least weight broken is the least plan's cost
-- (`least_cost`), and there is no setting exactly where there is no plan (`no_setting`); the same of a finished search, which
-- says "none" or the least plan (`outcome`): `none_exactly`, `least_exactly`. Assumes nothing.
use mathlib.Core.Path.{◌≡◌, refl, sym, ◌∙◌, ap, subst}
use mathlib.Core.Logic.{◌↔◌}
use mathlib.Core.Bool.{false}
use mathlib.Core.List.{List}
use Prim.Native.Nat.{ℕ, ◌≤◌}
use native.Mathlib.Omega.{arith}
use lib.IntN.{ℤ}
use Rattle.hall.specs.Hall.{Hall, Plan}
use Rattle.hall.specs.Order.{cost_of, held_of, held_entries, sum_of, better, rank, LeastOf, NoneOf}
use Rattle.hall.specs.Settings.{Setting, Satisfies}
use Rattle.hall.specs.Ranges.{HallInRange, SheetOf}
use Rattle.hall.specs.Walk.{Best, none_yet, so_far, walk_hall}
use Rattle.hall.specs.Answer.{least, none, answer, Finished}
use Rattle.lists.proofs.Cases.{both, Tri, below, level, above, tri}
use Rattle.hall.proofs.Order.{less_below}
use Rattle.hall.proofs.Satisfied.{least_exact, none_exact}
use Rattle.hall.proofs.Least.{best_least, none_best}
use Rattle.hall.proofs.Sums.{cost_sum}
use Rattle.hall.proofs.Budget.{Ending, stops, ends, ending, answer_is}
use Rattle.hall.proofs.Answers.{answered}
use Rattle.hall.proofs.Exactly.{least_where, none_where}
use Rattle.rails.specs.Weighted.{broken, LeastBroken, NoSetting}
use Rattle.rails.specs.Rails.{clauses, variables, plan_of}
use Rattle.rails.proofs.AnyClauses.{least_weight_only}
use Rattle.rails.proofs.Encoding.{encodes}

-- a plan that is not better costs no less
no_cheaper : (cs : List ℕ) (p q : Plan) → better cs q p ≡ false → cost_of cs p ≤ cost_of cs q
unfolding better rank
no_cheaper cs p q b = go (tri (cost_of cs q) (cost_of cs p))
  where
    go : Tri (cost_of cs q) (cost_of cs p) → cost_of cs p ≤ cost_of cs q
    go (below l) = both (less_below _ _ _ _ l) b
    go (level e) = omega arith
    go (above l) = omega arith

module _ (h : Hall) (ranges : HallInRange h) where
  -- the least weight that a setting breaks which meets the hard clauses is the cost of the least plan
  pub least_cost : (p : Plan) → LeastOf Satisfies h p → LeastBroken (variables h) (clauses h) (sum_of h.costs (held_entries p))
  least_cost p l =
      let e = encodes h ranges in
      let one = e.each p l.sheet in
      record {
        setting = one.setting;
        allowed = one.allowed;
        breaks = (e.sound one.setting one.allowed).cost ∙ ap (λ (q : Plan). sum_of h.costs (held_entries q)) one.plan;
        least = λ s a. weighs s (e.sound s a).sheet (e.sound s a).cost;
      }
    where
      weighs : (s : Setting) → Satisfies h (plan_of s) → broken s (clauses h) ≡ sum_of h.costs (held_entries (plan_of s))
          → sum_of h.costs (held_entries p) ≤ broken s (clauses h)
      weighs s m c = omega (arith, no_cheaper h.costs p (plan_of s) (l.best (plan_of s) m), cost_sum p l.sheet.plan, cost_sum (plan_of s) m.plan)

  -- no setting meets the hard clauses exactly where no plan meets the sheet
  pub no_setting : NoneOf Satisfies h ↔ NoSetting (variables h) (clauses h)
  no_setting =
      let e = encodes h ranges in
      (λ n s a. n (plan_of s) (e.sound s a).sheet, λ n p m. let one = e.each p m in n one.setting one.allowed)

-- ── of a search that was finished ──
-- the search says "least", with this cost
abbrev pub SaysCost : List ℤ → (budget room cost : ℕ) → Type 0
SaysCost ws budget room cost = (held : ℕ) × (opened : ℕ) × (p : Plan) × (answer ws budget room ≡ least cost held opened p)

module _ (h : Hall) (ws : List ℤ) (budget room : ℕ) (s : SheetOf h ws room) (done : Finished (answer ws budget room)) where
  -- the budget allows the walk
  allowed : (walk_hall h).opened ≤ budget
  allowed = go (ending h budget (walk_hall h))
    where
      go : Ending h budget (walk_hall h) → (walk_hall h).opened ≤ budget
      go (stops l e) = absurd (subst Finished (answer_is ws room h budget s ∙ e) done)
      go (ends l e) = l

  -- it says that no plan meets the sheet, or it says the least plan
  data Outcome : Type 0 where
    nothing : NoneOf Satisfies h → answer ws budget room ≡ none (walk_hall h).opened → Outcome
    found : (p : Plan) → LeastOf Satisfies h p → answer ws budget room ≡ least (cost_of h.costs p) (held_of p) (walk_hall h).opened p → Outcome

  outcome : Outcome
  outcome = go (walk_hall h).best refl
    where
      go : (b : Best) → (walk_hall h).best ≡ b → Outcome
      go none_yet e =
          let n = (none_exact h s.ranges.good).1 (none_best h e) in
          nothing n ((none_where ws budget room (answer ws budget room) (answered ws budget room) h s allowed).1 n)
      go (so_far p) e =
          let l = (least_exact h s.ranges.good p).1 (best_least h p e) in
          found p l ((least_where ws budget room (answer ws budget room) (answered ws budget room) h s allowed p).1 l)

  -- the search says "none" exactly where no setting meets the hard clauses: where a solver says "unsatisfiable"
  pub none_exactly : (answer ws budget room ≡ none (walk_hall h).opened) ↔ NoSetting (variables h) (clauses h)
  none_exactly =
      let plans = none_where ws budget room (answer ws budget room) (answered ws budget room) h s allowed in
      let settings = no_setting h s.ranges in
      (λ e. settings.0 (plans.0 e), λ n. plans.1 (settings.1 n))

  -- the search says "least" with a cost exactly where that cost is the optimum: the least weight that a setting breaks which
  -- meets the hard clauses
  pub least_exactly : (cost : ℕ) → SaysCost ws budget room cost ↔ LeastBroken (variables h) (clauses h) cost
  least_exactly cost = (to outcome, from outcome)
    where
      to : Outcome → SaysCost ws budget room cost → LeastBroken (variables h) (clauses h) cost
      to (nothing n e) f = let g = f.3 in absurd (let z : ◌≡◌ {A = ℕ} 0 1 = cc in omega arith)
      to (found p l e) f =
          let g = f.3 in
          let same : cost_of h.costs p ≡ cost = cc in
          subst (LeastBroken (variables h) (clauses h)) (sym (cost_sum p l.sheet.plan) ∙ same) (least_cost h s.ranges p l)

      from : Outcome → LeastBroken (variables h) (clauses h) cost → SaysCost ws budget room cost
      from (nothing n e) b = absurd ((no_setting h s.ranges).0 n b.setting b.allowed)
      from (found p l e) b =
          let same : cost_of h.costs p ≡ cost = cost_sum p l.sheet.plan ∙ least_weight_only (least_cost h s.ranges p l) b in
          (held_of p, (walk_hall h).opened, p, e ∙ ap (λ (c : ℕ). least c (held_of p) (walk_hall h).opened p) same)
