-- THE LAWS OF `shut`, what closes a node: all that is known of it, in this crate and in those above.
--
--     shut_covers   1. where a plan that does not meet every rule is shut, no plan that extends it and does is better than the
--                      best so far
--     not_shut      2. a plan that costs no more than the best so far and holds fewer devices is not shut
--     shut_none     3. where there is no best so far, no plan is shut
--     shut_best     4. where there is one, a plan is shut by its two numbers and the best's
--     shut_without  5. the rules that every plan meets shut no plan
--     shut_beats    6. where a plan that does not meet every rule is shut, the best so far beats each plan that extends it and does: it
--                      costs less, or the same and holds fewer devices
--
-- The walk's theorems know 1, 2 and 6, from which 1 follows; 3 to 5 are for the code that asks. Another test for closing a node is paid
-- for here: no other proof unfolds `shut` or `closes` but the tables of rows, which compute them. Assumes nothing.
use mathlib.Core.Path.{◌≡◌, refl, ◌∙◌}
use mathlib.Core.Logic.{◌⊎◌, inl, inr}
use mathlib.Core.Bool.{true, false, false≢true}
use mathlib.Core.List.{List, [], ◌∷◌}
use Prim.Native.Nat.{ℕ, ◌+◌, ◌≤◌, ◌<◌}
use native.Mathlib.Omega.{arith}
use Rattle.hall.specs.Hall.{Hall, Plan, meets_all, without}
use Rattle.hall.specs.Order.{cost_of, held_of, less, better}
use Rattle.hall.specs.Walk.{Best, none_yet, so_far, one_more, closes, shut}
use Rattle.hall.specs.Ties.{lower}
use Rattle.lists.proofs.Cases.{both, Tri, below, level, above, tri}
use Rattle.hall.proofs.Order.{First, head, tail, first, less_below, less_level, less_above, irreflexive}
use Rattle.hall.proofs.Lower.{fewer_lower, lower_not_better}
use Rattle.hall.proofs.Plans.{Extends, cost_mono, held_more}

-- there is a best so far, and q is not better
abbrev pub AtLeast : List ℕ → Best → Plan → Type 0
AtLeast cs none_yet q = ⊥
AtLeast cs (so_far b) q = better cs q b ≡ false

-- what there is for a best so far has a property
abbrev pub All : (Plan → Type 0) → Best → Type 0
All P none_yet = Unit {0}
All P (so_far b) = P b

-- there is a best so far, and it costs less than q, or the same and holds fewer devices
abbrev pub Beats : List ℕ → Best → Plan → Type 0
Beats cs none_yet q = ⊥
Beats cs (so_far b) q = lower cs b q ≡ true

-- step 2 compares cost and held number plus 1; whatever lies below the node costs no less and holds at least that many
closes_beats : (cs : List ℕ) (p : Plan) (b : Best) (q : Plan) → closes cs p b ≡ true → cost_of cs p ≤ cost_of cs q → held_of p < held_of q → Beats cs b q
unfolding closes one_more lower
closes_beats cs p none_yet q h c k = absurd (false≢true h)
closes_beats cs p (so_far b) q h c k = go (first h)
  where
    on : cost_of cs b ≡ cost_of cs p → First (held_of b) (one_more p) [] [] → lower cs b q ≡ true
    on u (head v) = fewer_lower cs b q (omega arith) (omega arith)
    on u (tail v s) = both s (irreflexive [])

    go : First (cost_of cs b) (cost_of cs p) (held_of b ∷ []) (one_more p ∷ []) → lower cs b q ≡ true
    go (head u) = less_below (cost_of cs b) (cost_of cs q) (held_of b ∷ []) (held_of q ∷ []) (omega arith)
    go (tail u t) = on u (first t)

module _ (h : Hall) (p : Plan) where
  pub shut_beats : (b : Best) (q : Plan) → shut h p b ≡ true → meets_all p h.rules ≡ false → Extends p q → meets_all q h.rules ≡ true → Beats h.costs b q
  unfolding shut
  shut_beats b q s u x m = closes_beats h.costs p b q s (cost_mono h.costs x) (on (held_more x))
    where
      on : (p ≡ q) ⊎ (held_of p < held_of q) → held_of p < held_of q
      on (inl e) = both m (rw e at u)
      on (inr v) = v

  pub shut_covers : (b : Best) (q : Plan) → shut h p b ≡ true → meets_all p h.rules ≡ false → Extends p q → meets_all q h.rules ≡ true → AtLeast h.costs b q
  shut_covers none_yet q s u x m = shut_beats none_yet q s u x m
  shut_covers (so_far b) q s u x m = lower_not_better h.costs b q (shut_beats (so_far b) q s u x m)

pub not_shut : (h : Hall) (p : Plan) (b : Best) → All (λ r. (cost_of h.costs p ≤ cost_of h.costs r) × (held_of p < held_of r)) b → shut h p b ≡ false
unfolding shut closes one_more
not_shut h p none_yet a = refl
not_shut h p (so_far b) a = go (tri (cost_of h.costs b) (cost_of h.costs p)) (tri (held_of b) (one_more p)) a.0 a.1
  where
    go : Tri (cost_of h.costs b) (cost_of h.costs p) → Tri (held_of b) (one_more p) → cost_of h.costs p ≤ cost_of h.costs b → held_of p < held_of b
        → less (cost_of h.costs b ∷ held_of b ∷ []) (cost_of h.costs p ∷ one_more p ∷ []) ≡ false
    go (below u) w c k = absurd (omega arith)
    go (level u) (below v) c k = absurd (omega arith)
    go (level u) (level v) c k = less_level _ _ _ _ u ∙ less_level _ _ _ _ v ∙ irreflexive []
    go (level u) (above v) c k = less_level _ _ _ _ u ∙ less_above _ _ _ _ v
    go (above u) w c k = less_above _ _ _ _ u

pub shut_none : (h : Hall) (p : Plan) → shut h p none_yet ≡ false
unfolding shut closes
shut_none h p = refl

pub shut_best : (h : Hall) (p b : Plan) → shut h p (so_far b) ≡ less (cost_of h.costs b ∷ held_of b ∷ []) (cost_of h.costs p ∷ (held_of p + 1) ∷ [])
unfolding shut closes one_more
shut_best h p b = refl

pub shut_without : (h : Hall) (p : Plan) (b : Best) → shut (without h) p b ≡ shut h p b
unfolding shut
shut_without h p b = refl
