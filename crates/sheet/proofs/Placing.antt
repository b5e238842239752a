-- Writing into the arrays: while something is left to write, writing it leaves what writing the whole leaves.
--
-- In order: a run of values (`run_length`, `run_step`, `run_none`); rules, their codes and their starts (`codes_more`, `starts_more`,
-- `starts_end`, `codes_end`). Assumes nothing.
use mathlib.Core.Path.{◌≡◌, refl, sym, ◌∙◌, ap}
use mathlib.Core.List.{List, ◌∷◌, ◌++◌}
use Prim.Native.Nat.{ℕ, zero, suc, ◌+◌, ◌-◌, ◌<◌}
use native.Mathlib.Numerals.{sub-one, add-one}
use native.Mathlib.Omega.{arith}
use lib.ListN.{length, set}
use lib.Seq.{sets}
use lib.IntN.{ℤ}
use Rattle.lists.proofs.InFront.{sets_append}
use Rattle.sheet.specs.Word.{value_at, run, codes_from}
use Rattle.sheet.specs.Placed.{codes_in, starts_in}

-- ── a run of values ──
pub run_length : (f : ℕ → ℕ) (at left : ℕ) → length (run f at left) ≡ left
unfolding run
run_length f at zero = refl
run_length f at (suc left) = ap suc (run_length f (at + 1) left)

pub run_step : (array : List ℕ) (k : ℕ) (f : ℕ → ℕ) (at left : ℕ) → 0 < left → sets array k (run f at left) ≡ sets (set array k (f at)) (k + 1) (run f (at + 1) (left - 1))
unfolding run
run_step array k f at zero more = absurd (omega arith)
run_step array k f at (suc left) more = rw (sub-one, add-one k)

pub run_none : (array : List ℕ) (k : ℕ) (f : ℕ → ℕ) (at left : ℕ) → left ≡ 0 → sets array k (run f at left) ≡ array
unfolding run
run_none array k f at left e = rw e

pub ruleset run_laws = (run_step, run_none)

-- ── rules ──
codes_one : (n : ℕ) (ws : List ℤ) (at left : ℕ) → (left ≡ 0 → ⊥) → codes_in n ws at left ≡ codes_from n ws (at + 1) (value_at ws at) ++ codes_in n ws (at + 1 + value_at ws at) (left - 1)
unfolding codes_in
codes_one n ws at zero more = absurd (more refl)
codes_one n ws at (suc left) more = rw sub-one

starts_one : (ws : List ℤ) (at first left : ℕ) → (left ≡ 0 → ⊥) → starts_in ws at first left ≡ first ∷ starts_in ws (at + 1 + value_at ws at) (first + value_at ws at) (left - 1)
unfolding starts_in
starts_one ws at first zero more = absurd (more refl)
starts_one ws at first (suc left) more = rw sub-one

pub codes_more : (n : ℕ) (ws : List ℤ) (at left first w : ℕ) (codes codes' whole : List ℕ) → (left ≡ 0 → ⊥) → w ≡ value_at ws at
    → codes' ≡ sets codes first (codes_from n ws (at + 1) w) → sets codes first (codes_in n ws at left) ≡ whole
    → sets codes' (first + w) (codes_in n ws (at + 1 + w) (left - 1)) ≡ whole
codes_more n ws at left first w codes codes' whole more e put inv =
    rw (put, e)
    (ap (λ (l : ℕ). sets (sets codes first (codes_from n ws (at + 1) (value_at ws at))) (first + l) (codes_in n ws (at + 1 + value_at ws at) (left - 1))) (sym (run_length _ (at + 1) (value_at ws at)))
    ∙ sym (sets_append codes first (codes_from n ws (at + 1) (value_at ws at)) (codes_in n ws (at + 1 + value_at ws at) (left - 1)))
    ∙ sym (ap (sets codes first) (codes_one n ws at left more))
    ∙ inv)

pub starts_more : (ws : List ℤ) (at left first w r : ℕ) (starts whole : List ℕ) → (left ≡ 0 → ⊥) → w ≡ value_at ws at
    → sets starts r (starts_in ws at first left) ≡ whole → sets (set starts r first) (r + 1) (starts_in ws (at + 1 + w) (first + w) (left - 1)) ≡ whole
starts_more ws at left first w r starts whole more e inv =
    let s : r + 1 ≡ suc r = omega arith in
    rw (e, s) (sym (ap (sets starts r) (starts_one ws at first left more)) ∙ inv)

pub starts_end : (ws : List ℤ) (at left first r : ℕ) (starts whole : List ℕ) → left ≡ 0 → sets starts r (starts_in ws at first left) ≡ whole → set starts r first ≡ whole
unfolding starts_in
starts_end ws at left first r starts whole e inv = rw e at inv

pub codes_end : (n : ℕ) (ws : List ℤ) (at left first : ℕ) (codes whole : List ℕ) → left ≡ 0 → sets codes first (codes_in n ws at left) ≡ whole → codes ≡ whole
unfolding codes_in
codes_end n ws at left first codes whole e inv = rw e at inv
