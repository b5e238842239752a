-- A node of the definitions' walk by what holds at it, and one entry of its rule.
--
-- In order: a plan that meets every rule (`node_met`), a node that is shut (`node_shut`), one that branches (`node_branches`); an
-- entry whose device is held or free (`through_held`, `through_free`). Assumes nothing.
use mathlib.Core.Path.{◌≡◌, refl, ap}
use mathlib.Core.Bool.{true, false}
use mathlib.Core.List.{◌∷◌}
use Prim.Native.Nat.{ℕ, suc, ◌+◌}
use native.Mathlib.Omega.{arith}
use Rattle.hall.specs.Hall.{Entry, Rule, Hall, Plan, is_free, hold, meets_all, first_unmet}
use Rattle.hall.specs.Walk.{Best, so_far, Walked, Walker, keep, shut, still, after, entry_by, through, opening, node_by, node}
use Rattle.walk.specs.Node.{alone}

-- opening a node and then walking is the node alone and then the walk
opening_first : (p : Plan) (b : Best) (w : Walked) → opening p w ≡ after (alone p b) w
unfolding opening after still
opening_first p b w = let e : suc w.opened ≡ suc 0 + w.opened = omega arith in ap (λ (k : ℕ). record { opened = k; best = w.best; plans = p ∷ w.plans }) e

module _ (child : Walker) (h : Hall) (p : Plan) (b : Best) where
  pub node_met : meets_all p h.rules ≡ true → node child h p b ≡ alone p (so_far (keep h.costs p b))
  unfolding node node_by
  node_met e = rw e refl

  pub node_shut : meets_all p h.rules ≡ false → shut h p b ≡ true → node child h p b ≡ alone p b
  unfolding node node_by
  node_shut e f = rw (e, f) refl

  pub node_branches : {r : Rule} → meets_all p h.rules ≡ false → shut h p b ≡ false → first_unmet p h.rules ≡ r → node child h p b ≡ after (alone p b) (through child p r b)
  unfolding node node_by
  node_branches {r} e f g = rw (e, f, g) (opening_first p b (through child p r b))

module _ (child : Walker) (p : Plan) (e : Entry) (es : Rule) (b : Best) where
  pub through_held : is_free p e ≡ false → through child p (e ∷ es) b ≡ through child p es b
  unfolding through entry_by
  through_held f = rw f refl

  pub through_free : is_free p e ≡ true → through child p (e ∷ es) b ≡ after (child (hold p e) b) (through child p es (child (hold p e) b).best)
  unfolding through entry_by
  through_free f = rw f refl
