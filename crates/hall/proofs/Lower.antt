-- Cost and held number alone: the plan that is lower in them, and plans that tie.
--
-- In order: a plan that costs no more and holds fewer devices is lower (`fewer_lower`); a lower plan is better (`lower_better`,
-- `lower_not_better`), so what is lower than a third plan stays so through a better one (`lower_still`), and is lower than what is not
-- lower than that (`lower_past`); plans of which neither is lower tie (`neither_lower`). What ties has the same two numbers
-- (`ties_numbers`, `numbers_tie`). Of two plans with the same numbers neither is lower (`level_not_lower`), the same plans tie with them
-- and are lower (`level_ties`, `level_lower`), and the marks decide which is better (`level_better`). Assumes nothing.
use mathlib.Core.Path.{◌≡◌, ◌∙◌}
use mathlib.Core.Logic.{⊎_elim}
use mathlib.Core.Bool.{true, false}
use mathlib.Core.List.{List, [], ◌∷◌}
use Prim.Native.Nat.{ℕ, ◌≤◌, ◌<◌}
use native.Mathlib.Omega.{arith}
use lib.Dec.{eqb}
use borrow.Author.Tests.{eqb-true, eq-eqb}
use Rattle.hall.specs.Hall.{Plan}
use Rattle.hall.specs.Order.{cost_of, held_of, less, rank, better}
use Rattle.hall.specs.Ties.{ties, lower}
use Rattle.lists.proofs.Cases.{both, fails, and_both, Tri, below, level, above, tri}
use Rattle.hall.proofs.Order.{First, head, tail, first, less_below, less_level, irreflexive, split, total, one_way}

module _ (cs : List ℕ) (p q : Plan) where
  pub fewer_lower : cost_of cs p ≤ cost_of cs q → held_of p < held_of q → lower cs p q ≡ true
  unfolding lower
  fewer_lower h k = go (tri (cost_of cs p) (cost_of cs q))
    where
      go : Tri (cost_of cs p) (cost_of cs q) → less (cost_of cs p ∷ held_of p ∷ []) (cost_of cs q ∷ held_of q ∷ []) ≡ true
      go (below u) = less_below _ _ _ _ u
      go (level u) = less_level _ _ _ _ u ∙ less_below _ _ _ _ k
      go (above u) = absurd (omega arith)

  pub lower_better : lower cs p q ≡ true → better cs p q ≡ true
  unfolding lower better rank
  lower_better h = go (first h)
    where
      on : First (held_of p) (held_of q) [] [] → less (held_of p ∷ p) (held_of q ∷ q) ≡ true
      on (head v) = less_below _ _ _ _ v
      on (tail v s) = both s (irreflexive [])

      go : First (cost_of cs p) (cost_of cs q) (held_of p ∷ []) (held_of q ∷ []) → better cs p q ≡ true
      go (head u) = less_below _ _ _ _ u
      go (tail u t) = less_level _ _ _ _ u ∙ on (first t)

  pub lower_not_better : lower cs p q ≡ true → better cs q p ≡ false
  unfolding better
  lower_not_better h = fails (λ t. one_way (rank cs q) (rank cs p) t (lower_better h))

  pub lower_still : (r : Plan) → lower cs p r ≡ true → better cs p q ≡ false → lower cs q r ≡ true
  unfolding lower
  lower_still r h n = ⊎_elim (λ u. both (lower_better u) n) (λ u. u) (split _ (cost_of cs q ∷ held_of q ∷ []) _ h)

  pub lower_past : (r : Plan) → lower cs p q ≡ true → lower cs r q ≡ false → lower cs p r ≡ true
  unfolding lower
  lower_past r h n = ⊎_elim (λ u. u) (λ u. both u n) (split _ (cost_of cs r ∷ held_of r ∷ []) _ h)

  -- ── plans that tie ──
  pub ties_numbers : ties cs p q ≡ true → (cost_of cs p ≡ cost_of cs q) × (held_of p ≡ held_of q)
  unfolding ties
  ties_numbers h = let a = and_both (eqb (cost_of cs p) (cost_of cs q)) (eqb (held_of p) (held_of q)) h in (eqb-true _ _ a.0, eqb-true _ _ a.1)

  module _ (same-cost : cost_of cs p ≡ cost_of cs q) (same-held : held_of p ≡ held_of q) where
    pub numbers_tie : ties cs p q ≡ true
    unfolding ties
    numbers_tie = rw (eq-eqb _ _ same-cost, eq-eqb _ _ same-held)

    pub level_not_lower : lower cs p q ≡ false
    unfolding lower
    level_not_lower = less_level _ _ _ _ same-cost ∙ less_level _ _ _ _ same-held ∙ irreflexive []

    pub level_ties : (r : Plan) → ties cs r p ≡ ties cs r q
    unfolding ties
    level_ties r = rw (same-cost, same-held)

    pub level_lower : (r : Plan) → lower cs r p ≡ lower cs r q
    unfolding lower
    level_lower r = rw (same-cost, same-held)

    pub level_better : better cs p q ≡ less p q
    unfolding better rank
    level_better = less_level _ _ _ _ same-cost ∙ less_level _ _ _ _ same-held

  pub neither_lower : lower cs p q ≡ false → lower cs q p ≡ false → ties cs p q ≡ true
  unfolding lower
  neither_lower h k =
      let t = total (cost_of cs p ∷ held_of p ∷ []) (cost_of cs q ∷ held_of q ∷ []) h k in
      numbers_tie (cc) (cc)
