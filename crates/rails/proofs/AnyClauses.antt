-- Laws of weighted clauses, whatever they encode.
--
-- In order: one list of clauses behind another (`meets_append`, `broken_append`, `weights_append`); the least weight broken is
-- one number (`least_weight_only`); no more is broken than all soft weights together (`broken_most`); before 2022, where a hard
-- clause weighs the top: a setting that breaks soft clauses alone breaks their weights (`soft_alone`), and a setting that breaks
-- a hard clause breaks more than each of those (`hard_breaks_more`). Assumes nothing.
use mathlib.Core.Path.{◌≡◌, refl, sym}
use mathlib.Core.Logic.{◌⊎◌, inl, inr}
use mathlib.Core.Bool.{Bool, true, false, cond, ◌&&◌, true≢false, and_assoc}
use mathlib.Core.List.{List, [], ◌∷◌, ◌++◌}
use Prim.Native.Nat.{ℕ, ◌+◌, ◌≤◌, ◌<◌, zero-le}
use native.Mathlib.Omega.{arith}
use Rattle.hall.specs.Settings.{Setting, rule_true}
use Rattle.lists.proofs.Cases.{test, and_both}
use Rattle.rails.specs.Weighted.{Clause, hard, soft, meets_hard, broken, LeastBroken, soft_weights, top, broken_at}

-- ── one list of clauses behind another ──
pub meets_append : (s : Setting) (cs ds : List Clause) → meets_hard s (cs ++ ds) ≡ (meets_hard s cs && meets_hard s ds)
unfolding meets_hard
meets_append s [] ds = refl
meets_append s (hard c ∷ cs) ds = rw (meets_append s cs ds) (sym (and_assoc (rule_true s c) (meets_hard s cs) (meets_hard s ds)))
meets_append s (soft w c ∷ cs) ds = meets_append s cs ds

pub broken_append : (s : Setting) (cs ds : List Clause) → broken s (cs ++ ds) ≡ broken s cs + broken s ds
unfolding broken
broken_append s [] ds = omega arith
broken_append s (hard c ∷ cs) ds = broken_append s cs ds
broken_append s (soft w c ∷ cs) ds = omega (arith, broken_append s cs ds)

pub weights_append : (cs ds : List Clause) → soft_weights (cs ++ ds) ≡ soft_weights cs + soft_weights ds
unfolding soft_weights
weights_append [] ds = omega arith
weights_append (hard c ∷ cs) ds = weights_append cs ds
weights_append (soft w c ∷ cs) ds = omega (arith, weights_append cs ds)

-- ── the least weight broken ──
pub least_weight_only : {variables : ℕ} {cs : List Clause} {a b : ℕ} → LeastBroken variables cs a → LeastBroken variables cs b → a ≡ b
least_weight_only x y =
    let k = x.least y.setting y.allowed in
    let l = y.least x.setting x.allowed in
    omega (arith, x.breaks, y.breaks)

broken_most : (s : Setting) (cs : List Clause) → broken s cs ≤ soft_weights cs
unfolding broken soft_weights
broken_most s [] = zero-le
broken_most s (hard c ∷ cs) = broken_most s cs
broken_most s (soft w c ∷ cs) = go (rule_true s c) (broken_most s cs)
  where
    go : (b : Bool) → broken s cs ≤ soft_weights cs → cond b 0 w + broken s cs ≤ w + soft_weights cs
    go true ih = omega arith
    go false ih = omega arith

-- ── before 2022 ──
-- where every hard clause is met, what is broken are the soft weights, whatever a hard clause weighs
pub soft_alone : (t : ℕ) (s : Setting) (cs : List Clause) → meets_hard s cs ≡ true → broken_at t s cs ≡ broken s cs
unfolding meets_hard broken broken_at
soft_alone t s [] m = refl
soft_alone t s (hard c ∷ cs) m =
    let a = and_both (rule_true s c) (meets_hard s cs) m in
    rw a.0 (omega (arith, soft_alone t s cs a.1))
soft_alone t s (soft w c ∷ cs) m = rw (soft_alone t s cs m) refl

-- a hard clause that is broken weighs all of its weight
hard_weighs : (t : ℕ) (s : Setting) (cs : List Clause) → meets_hard s cs ≡ false → t ≤ broken_at t s cs
unfolding meets_hard broken_at
hard_weighs t s [] m = absurd (true≢false m)
hard_weighs t s (hard c ∷ cs) m = go (test (rule_true s c)) (hard_weighs t s cs)
  where
    go : (rule_true s c ≡ true) ⊎ (rule_true s c ≡ false) → (meets_hard s cs ≡ false → t ≤ broken_at t s cs) → t ≤ cond (rule_true s c) 0 t + broken_at t s cs
    go (inl u) ih = rw u (omega (arith, ih (rw u at m)))
    go (inr u) ih = rw u (omega arith)
hard_weighs t s (soft w c ∷ cs) m = omega (arith, hard_weighs t s cs m)

-- a setting that breaks a hard clause breaks more weight than any setting that breaks soft clauses alone
pub hard_breaks_more : (cs : List Clause) (s s' : Setting) → meets_hard s cs ≡ false → meets_hard s' cs ≡ true → broken_at (top cs) s' cs < broken_at (top cs) s cs
hard_breaks_more cs s s' m m' = omega (arith, soft_alone (top cs) s' cs m', broken_most s' cs, hard_weighs (top cs) s cs m)
