-- The walk of the definitions is 01's: its number of free devices is bound enough.
--
-- In order: a node asks its walker only for children that it opens (`node_same`), each of which has one free device less
-- (`child_fuel`); so the walk from a plan is a node whose children are walked by the same walk (`walks_on`). Assumes nothing.
use mathlib.Core.Path.{◌≡◌, refl, ap}
use mathlib.Core.Bool.{Bool, true, false}
use mathlib.Core.List.{[], ◌∷◌}
use Prim.Native.Nat.{ℕ, zero, suc, ◌+◌, ◌-◌, ◌≤◌}
use native.Mathlib.Omega.{arith}
use lib.ListN.{length}
use Rattle.hall.specs.Hall.{Entry, Rule, Hall, Plan, is_free, hold, meets_all, first_unmet}
use Rattle.hall.specs.Order.{held_of}
use Rattle.hall.specs.Walk.{Best, Walker, shut, after, entry_by, through, opening, node_by, node, walk, walk_from}
use Rattle.hall.proofs.Plans.{hold_held, hold_length, held_all}

-- a child of p has fuel enough for its free devices where p had, one less
pub child_fuel : (n : ℕ) (p : Plan) (e : Entry) → length p ≤ suc n + held_of p → is_free p e ≡ true → length (hold p e) ≤ n + held_of (hold p e)
child_fuel n p e l f = omega (arith, hold_held p e f, hold_length p e)

-- a plan without free devices has no child
pub no_child : {A : Type 0} (p : Plan) (e : Entry) → length p ≤ 0 + held_of p → is_free p e ≡ true → A
no_child p e l f = absurd (omega (arith, hold_held p e f, hold_length p e, held_all (hold p e)))

module _ (c d : Walker) (p : Plan) (same : (e : Entry) (b : Best) → is_free p e ≡ true → c (hold p e) b ≡ d (hold p e) b) where
  pub through_same : (es : Rule) (b : Best) → through c p es b ≡ through d p es b
  unfolding through entry_by
  through_same [] b = refl
  through_same (e ∷ es) b = go (is_free p e) refl (through_same es)
    where
      go : (t : Bool) → is_free p e ≡ t → ((b : Best) → through c p es b ≡ through d p es b) → entry_by t c p e (through c p es) b ≡ entry_by t d p e (through d p es) b
      go true u ih = rw (same e b u) (ap (after (d (hold p e) b)) (ih (d (hold p e) b).best))
      go false u ih = ih b

  pub node_same : (h : Hall) (b : Best) → node c h p b ≡ node d h p b
  unfolding node node_by
  node_same h b = ap (opening p) (go (meets_all p h.rules) (shut h p b))
    where
      go : (s t : Bool) → node_by s t c h p b ≡ node_by s t d h p b
      go true t = refl
      go false true = refl
      go false false = through_same (first_unmet p h.rules) b

pub walks_on : (h : Hall) (p : Plan) (b : Best) → walk_from h p b ≡ node (walk_from h) h p b
unfolding walk_from walk
walks_on h p b = go (length p - held_of p) refl
  where
    go : (n : ℕ) → length p - held_of p ≡ n → walk h n p b ≡ node (walk_from h) h p b
    go zero u = node_same _ _ p (λ e b f. no_child p e (omega arith) f) h b
    go (suc n) u = node_same _ _ p (λ e b f. let v : length (hold p e) - held_of (hold p e) ≡ n = omega (arith, hold_held p e f, hold_length p e) in rw v refl) h b
