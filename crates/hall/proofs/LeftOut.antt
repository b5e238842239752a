-- The rules that every plan meets can be left out: the walk of a hall without them opens the same nodes and has the same best and ties.
--
-- The argument: they change neither whether a plan meets every rule nor the first rule that it does not meet (`met_without`,
-- `first_without`), nor what shuts a node (`shut_without` of Shut), and nothing else of the rules is asked at a node
-- (`node_without`). The claims: `met_without`, `walk_without`, and under a budget `within_without` and `list_without`. No rule that is
-- left names both positions of a device (`left_one_way`), and what is left is no more than what was there (`left_fewer`, `left_shorter`,
-- `without_in_range`). Assumes nothing.
use mathlib.Core.Path.{◌≡◌, refl, ap, ◌∙◌}
use mathlib.Core.Logic.{◌⊎◌, inl, inr}
use mathlib.Core.Bool.{Bool, true, false, cond}
use mathlib.Core.List.{List, [], ◌∷◌, ◌++◌}
use Prim.Native.Nat.{ℕ, zero, suc, ◌-◌, ◌≤◌, zero-le}
use native.Mathlib.Omega.{arith}
use lib.ListN.{length, length-append}
use lib.Dec.{ltb}
use Rattle.hall.specs.Hall.{Rule, Hall, Plan, names_both, meets_all, first_unmet, OneWay, leave_out, without}
use Rattle.hall.specs.Order.{held_of}
use Rattle.hall.specs.Walk.{Best, none_yet, so_far, Walked, Walker, shut, through, opening, node_by, node, walk, walk_from, start, walk_hall}
use Rattle.lists.specs.Lists.{Each}
use Rattle.hall.specs.Ranges.{RuleInRange, HallInRange}
use Rattle.hall.specs.Bound.{entries}
use Rattle.hall.specs.Answer.{spent_by, within}
use Rattle.hall.specs.Ties.{tying, in_order, equal_to}
use Rattle.hall.specs.Listing.{list_spent_by, list_within}
use Rattle.lists.proofs.Cases.{test}
use Rattle.hall.proofs.Rules.{both_met}
use Rattle.hall.proofs.Shut.{shut_without}
use Rattle.hall.proofs.Walks.{node_same}

pub met_without : (p : Plan) (rs : List Rule) → meets_all p (leave_out rs) ≡ meets_all p rs
unfolding meets_all leave_out
met_without p [] = refl
met_without p (r ∷ rs) = go (test (names_both r)) (met_without p rs)
  where
    go : (names_both r ≡ true) ⊎ (names_both r ≡ false) → meets_all p (leave_out rs) ≡ meets_all p rs → meets_all p (leave_out (r ∷ rs)) ≡ meets_all p (r ∷ rs)
    go (inl u) ih = rw (u, both_met p r u) ih
    go (inr u) ih = rw (u, ih) refl

first_without : (p : Plan) (rs : List Rule) → first_unmet p (leave_out rs) ≡ first_unmet p rs
unfolding first_unmet leave_out
first_without p [] = refl
first_without p (r ∷ rs) = go (test (names_both r)) (first_without p rs)
  where
    go : (names_both r ≡ true) ⊎ (names_both r ≡ false) → first_unmet p (leave_out rs) ≡ first_unmet p rs → first_unmet p (leave_out (r ∷ rs)) ≡ first_unmet p (r ∷ rs)
    go (inl u) ih = rw (u, both_met p r u) ih
    go (inr u) ih = rw (u, ih) refl

pub left_one_way : (rs : List Rule) → OneWay (leave_out rs)
unfolding leave_out
left_one_way [] = tt
left_one_way (r ∷ rs) = go (test (names_both r)) (left_one_way rs)
  where
    go : (names_both r ≡ true) ⊎ (names_both r ≡ false) → OneWay (leave_out rs) → OneWay (leave_out (r ∷ rs))
    go (inl u) ih = rw u ih
    go (inr u) ih = rw u (u, ih)

-- what is left is fewer rules, fewer entries, and as much within the ranges
pub left_fewer : (rs : List Rule) → length (leave_out rs) ≤ length rs
unfolding leave_out
left_fewer [] = zero-le
left_fewer (r ∷ rs) = go (names_both r) (left_fewer rs)
  where
    go : (b : Bool) → length (leave_out rs) ≤ length rs → length (cond b (leave_out rs) (r ∷ leave_out rs)) ≤ suc (length rs)
    go true ih = omega arith
    go false ih = omega arith

pub left_shorter : (rs : List Rule) → length (entries (leave_out rs)) ≤ length (entries rs)
unfolding leave_out entries
left_shorter [] = zero-le
left_shorter (r ∷ rs) = go (names_both r) (left_shorter rs)
  where
    go : (b : Bool) → length (entries (leave_out rs)) ≤ length (entries rs) → length (entries (cond b (leave_out rs) (r ∷ leave_out rs))) ≤ length (r ++ entries rs)
    go true ih = omega (arith, length-append r (entries rs))
    go false ih = omega (arith, length-append r (entries rs), length-append r (entries (leave_out rs)))

left_each : (P : Rule → Type 0) (rs : List Rule) → Each P rs → Each P (leave_out rs)
unfolding leave_out
left_each P [] a = tt
left_each P (r ∷ rs) a = go (names_both r) (left_each P rs a.1)
  where
    go : (b : Bool) → Each P (leave_out rs) → Each P (cond b (leave_out rs) (r ∷ leave_out rs))
    go true ih = ih
    go false ih = (a.0, ih)

pub without_in_range : (h : Hall) → HallInRange h → HallInRange (without h)
without_in_range h g =
    let count = g.count in
    record { devices = g.devices; cheap = g.cheap; count = omega (arith, left_fewer h.rules); good = left_each (RuleInRange (length h.costs)) h.rules g.good }

module _ (h : Hall) where
  node_without : (c : Walker) (p : Plan) (b : Best) → node c (without h) p b ≡ node c h p b
  unfolding node node_by
  node_without c p b = ap (opening p) (rw (met_without p h.rules, shut_without h p b) (go (meets_all p h.rules) (shut h p b)))
    where
      go : (s t : Bool) → node_by s t c (without h) p b ≡ node_by s t c h p b
      go true t = refl
      go false true = refl
      go false false = ap (λ (r : Rule). through c p r b) (first_without p h.rules)

  walks_without : (n : ℕ) (p : Plan) (b : Best) → walk (without h) n p b ≡ walk h n p b
  unfolding walk
  walks_without zero p b = node_without _ p b
  walks_without (suc n) p b = node_same _ _ p (λ e b f. walks_without n _ b) (without h) b ∙ node_without _ p b

  pub walk_without : walk_hall (without h) ≡ walk_hall h
  unfolding walk_hall walk_from start
  walk_without = walks_without (length (start h) - held_of (start h)) (start h) none_yet

  -- the end of the walk, with any best in the place of its own
  abbrev ended : Best → Walked
  ended b = record { opened = (walk_hall h).opened; best = b; plans = (walk_hall h).plans }

  -- and so the answer under a budget
  pub within_without : (budget : ℕ) → within (without h) budget (walk_hall (without h)) ≡ within h budget (walk_hall h)
  within_without budget = ap (within (without h) budget) walk_without ∙ go (ltb budget (walk_hall h).opened) (walk_hall h).best
    where
      go : (t : Bool) (b : Best) → spent_by t (without h) budget (ended b) ≡ spent_by t h budget (ended b)
      go true b = refl
      go false none_yet = refl
      go false (so_far p) = refl

  -- so are the ties of a plan, and the list of them under a budget
  tying_without : (p : Plan) (qs : List Plan) → tying (without h) p qs ≡ tying h p qs
  unfolding tying
  tying_without p [] = refl
  tying_without p (q ∷ qs) = rw (met_without q h.rules, tying_without p qs) refl

  pub equal_without : (p : Plan) → equal_to (without h) p ≡ equal_to h p
  unfolding equal_to
  equal_without p = ap (λ (w : Walked). in_order (tying (without h) p w.plans)) walk_without ∙ ap in_order (tying_without p (walk_hall h).plans)

  pub list_without : (budget room : ℕ) → list_within (without h) budget room (walk_hall (without h)) ≡ list_within h budget room (walk_hall h)
  list_without budget room = ap (list_within (without h) budget room) walk_without ∙ go (ltb budget (walk_hall h).opened) (walk_hall h).best
    where
      go : (t : Bool) (b : Best) → list_spent_by t (without h) budget room (ended b) ≡ list_spent_by t h budget room (ended b)
      go true b = refl
      go false none_yet = refl
      go false (so_far p) = rw (equal_without p) refl
