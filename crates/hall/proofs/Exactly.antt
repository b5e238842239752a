-- Each case of the demands is given exactly where it holds. From the demands alone: of whatever answer has `Answered`.
--
-- In order: a refusal, exactly for its reason (`refused_where`), of a sheet of a hall never (`never_refused`), of any other always
-- (`else_refused`); where the budget allows the walk of a sheet's hall, the least plan and none (`least_where`, `none_where`);
-- spent, exactly where it does not (`spent_where`). Assumes nothing.
use mathlib.Core.Path.{◌≡◌, refl, sym, ◌∙◌, ap, subst}
use mathlib.Core.Logic.{◌↔◌}
use mathlib.Core.List.{List}
use Prim.Native.Nat.{ℕ, ◌≤◌, ◌<◌}
use native.Mathlib.Omega.{arith}
use lib.ListN.{length}
use lib.IntN.{ℤ}
use Rattle.hall.specs.Hall.{Hall, Plan}
use Rattle.hall.specs.Order.{cost_of, held_of, LeastOf, NoneOf}
use Rattle.hall.specs.Settings.{Satisfies}
use Rattle.hall.specs.Walk.{Best, none_yet, so_far, walk_hall}
use Rattle.lists.specs.Lists.{Each}
use Rattle.hall.specs.Ranges.{RuleInRange, SheetOf}
use Rattle.hall.specs.Reading.{Fault, Read, bad, got, decode}
use Rattle.hall.specs.Due.{Reason}
use Rattle.hall.specs.Answer.{Answer, least, none, spent, refused, finished, answer_read, answer}
use Rattle.hall.specs.Demands.{Answered}
use Rattle.hall.proofs.Satisfied.{least_exact, none_exact}
use Rattle.hall.proofs.Least.{best_least, least_best, none_best, best_none}
use Rattle.hall.proofs.Reasons.{decoded, verdict_only}
use Rattle.hall.proofs.Budget.{enough, answer_is, spent_exactly}
use Rattle.hall.proofs.Answers.{answered_only}

module _ (ws : List ℤ) (budget room : ℕ) (a : Answer) (demands : Answered ws budget room a) where
  is : answer ws budget room ≡ a
  is = answered_only ws budget room a demands

  -- ── demand 1 ──
  pub refused_where : (f : Fault) (i : ℕ) → (a ≡ refused f i) ↔ Reason f i ws room
  refused_where f i = (λ e. subst (Answered ws budget room) e demands, λ r. sym is ∙ answered_only ws budget room (refused f i) r)

  pub never_refused : (h : Hall) → SheetOf h ws room → (f : Fault) (i : ℕ) → a ≡ refused f i → ⊥
  never_refused h s f i e =
      let r = verdict_only ws room (bad f i) ((refused_where f i).0 e) in
      let g = verdict_only ws room (got h (length ws)) (s, refl) in
      let z : ◌≡◌ {A = ℕ} 0 1 = cc in
      omega arith

  pub else_refused : ((h : Hall) → SheetOf h ws room → ⊥) → (f : Fault) × (i : ℕ) × (a ≡ refused f i)
  unfolding answer
  else_refused n = go (decode room ws) refl is
    where
      go : (x : Read Hall) → decode room ws ≡ x → answer_read budget x ≡ a → (f : Fault) × (i : ℕ) × (a ≡ refused f i)
      go (bad f i) u e = (f, i, sym e)
      go (got h j) u e = absurd (n h (decoded ws room h j u))

  -- ── demands 2 and 3, of an accepted sheet ──
  module _ (h : Hall) (s : SheetOf h ws room) where
    good : Each (RuleInRange (length h.costs)) h.rules
    good = s.ranges.good

    pub spent_where : (a ≡ spent budget) ↔ (budget < (walk_hall h).opened)
    spent_where = subst (λ (x : Answer). (x ≡ spent budget) ↔ (budget < (walk_hall h).opened)) is (spent_exactly ws room h budget s)

    module _ (allowed : (walk_hall h).opened ≤ budget) where
      ended : a ≡ finished h (walk_hall h).opened (walk_hall h).best
      ended = sym is ∙ answer_is ws room h budget s ∙ enough h budget (walk_hall h) allowed

      pub least_where : (p : Plan) → (a ≡ least (cost_of h.costs p) (held_of p) (walk_hall h).opened p) ↔ LeastOf Satisfies h p
      least_where p = (λ e. go (walk_hall h).best refl (sym ended ∙ e), λ l. ended ∙ ap (finished h (walk_hall h).opened) (least_best h p ((least_exact h good p).0 l)))
        where
          go : (b : Best) → (walk_hall h).best ≡ b → finished h (walk_hall h).opened b ≡ least (cost_of h.costs p) (held_of p) (walk_hall h).opened p → LeastOf Satisfies h p
          go none_yet u e = absurd (let z : ◌≡◌ {A = ℕ} 0 1 = cc in omega arith)
          go (so_far q) u e = let z : q ≡ p = cc in subst (LeastOf Satisfies h) z ((least_exact h good q).1 (best_least h q u))

      pub none_where : (a ≡ none (walk_hall h).opened) ↔ NoneOf Satisfies h
      none_where = (λ e. go (walk_hall h).best refl (sym ended ∙ e), λ n. ended ∙ ap (finished h (walk_hall h).opened) (best_none h ((none_exact h good).0 n)))
        where
          go : (b : Best) → (walk_hall h).best ≡ b → finished h (walk_hall h).opened b ≡ none (walk_hall h).opened → NoneOf Satisfies h
          go none_yet u e = (none_exact h good).1 (none_best h u)
          go (so_far q) u e = absurd (let z : ◌≡◌ {A = ℕ} 0 1 = cc in omega arith)
