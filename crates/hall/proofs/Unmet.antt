-- The rules that a plan does not meet, from the laws of Rules alone.
--
-- In order: where q meets every rule and p does not, p's first unmet rule has an entry that leads to q (`branches`); the number
-- of unmet rules (`unmet`), at most all (`unmet_rules`), which falls with each child of a node (`unmet_falls`). Assumes nothing.
use mathlib.Core.Path.{◌≡◌}
use mathlib.Core.Logic.{◌⊎◌, inl, inr}
use mathlib.Core.Bool.{Bool, true, false, cond, true≢false}
use mathlib.Core.List.{List, [], ◌∷◌}
use Prim.Native.Nat.{ℕ, suc, ◌≤◌, ◌<◌, zero-le, suc-le-suc}
use native.Mathlib.Omega.{arith}
use lib.ListN.{length}
use Rattle.lists.specs.Lists.{In}
use Rattle.hall.specs.Hall.{Entry, Rule, Plan, is_free, hold, meets_rule, meets_all, first_unmet}
use Rattle.lists.proofs.Cases.{test, and_both}
use Rattle.hall.proofs.Plans.{Extends, hold_extends}
use Rattle.hall.proofs.Rules.{Branch, branch, meets_mono, hold_meets}

pub branches : {p q : Plan} (rs : List Rule) → Extends p q → meets_all p rs ≡ false → meets_all q rs ≡ true → Branch p q (first_unmet p rs)
unfolding meets_all first_unmet
branches [] x h k = absurd (true≢false h)
branches {p} {q} (r ∷ rs) x h k = go (test (meets_rule p r)) (λ u. branches rs x u (and_both (meets_rule q r) (meets_all q rs) k).1)
  where
    go : (meets_rule p r ≡ true) ⊎ (meets_rule p r ≡ false) → (meets_all p rs ≡ false → Branch p q (first_unmet p rs)) → Branch p q (cond (meets_rule p r) (first_unmet p rs) r)
    go (inl u) ih = rw u (ih (rw u at h))
    go (inr u) ih = rw u (branch r x u (and_both (meets_rule q r) (meets_all q rs) k).0)

-- the number of rules that a plan does not meet
unfoldable pub unmet : Plan → List Rule → ℕ
unmet p [] = 0
unmet p (r ∷ rs) = cond (meets_rule p r) (unmet p rs) (suc (unmet p rs))

pub unmet_rules : (p : Plan) (rs : List Rule) → unmet p rs ≤ length rs
unfolding unmet
unmet_rules p [] = zero-le
unmet_rules p (r ∷ rs) = go (meets_rule p r) (unmet_rules p rs)
  where
    go : (b : Bool) → unmet p rs ≤ length rs → cond b (unmet p rs) (suc (unmet p rs)) ≤ suc (length rs)
    go true ih = omega arith
    go false ih = omega arith

unmet_mono : {p q : Plan} (rs : List Rule) → Extends p q → unmet q rs ≤ unmet p rs
unfolding unmet
unmet_mono [] x = zero-le
unmet_mono {p} {q} (r ∷ rs) x = go (test (meets_rule p r)) (unmet_mono rs x)
  where
    go : (meets_rule p r ≡ true) ⊎ (meets_rule p r ≡ false) → unmet q rs ≤ unmet p rs → unmet q (r ∷ rs) ≤ unmet p (r ∷ rs)
    go (inl u) ih = rw (u, meets_mono r x u) ih
    go (inr u) ih = rw u (on (meets_rule q r))
      where
        on : (b : Bool) → cond b (unmet q rs) (suc (unmet q rs)) ≤ suc (unmet p rs)
        on true = omega arith
        on false = omega arith

pub unmet_falls : (p : Plan) (e : Entry) (rs : List Rule) → In e (first_unmet p rs) → is_free p e ≡ true → unmet (hold p e) rs < unmet p rs
unfolding unmet first_unmet
unmet_falls p e [] i f = elim i [ ]
unmet_falls p e (r ∷ rs) i f = go (test (meets_rule p r)) i (λ j. unmet_falls p e rs j f)
  where
    go : (meets_rule p r ≡ true) ⊎ (meets_rule p r ≡ false) → In e (cond (meets_rule p r) (first_unmet p rs) r) → (In e (first_unmet p rs) → unmet (hold p e) rs < unmet p rs) → unmet (hold p e) (r ∷ rs) < unmet p (r ∷ rs)
    go (inl u) j ih = rw (u, meets_mono r (hold_extends p e f) u) (ih (rw u at j))
    go (inr u) j ih = rw (u, hold_meets p e r (rw u at j) f) (suc-le-suc (unmet_mono rs (hold_extends p e f)))
