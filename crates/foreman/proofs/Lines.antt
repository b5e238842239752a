-- The lines of plans that lie in a run.
--
-- In order: no line (`lines_none`), and one more (`lines_more`); how long the lines are at most (`lines_short`); so many plans of a run
-- are so many (`plans_number`). Assumes nothing.
use mathlib.Core.Path.{◌≡◌, refl, sym, ◌∙◌, ap}
use mathlib.Core.List.{List, [], ◌∷◌, ◌++◌, append_assoc, append-nil}
use Prim.Native.Nat.{ℕ, zero, suc, ◌+◌, ◌-◌, ◌*◌, ◌≤◌}
use native.Mathlib.Numerals.{add-one}
use native.Mathlib.Nat.{zero-mul, suc-mul}
use native.Mathlib.Omega.{arith}
use lib.ListN.{length, take, drop, length-append}
use lib.Seq.{drop-drop}
use Rattle.hall.specs.Hall.{Plan}
use Rattle.plans.specs.Runs.{plans_from}
use Rattle.plans.proofs.Runs.{Sized}
use Rattle.printing.specs.Lines.{hold_line}
use Rattle.printing.proofs.Lengths.{hold_short}
use Rattle.foreman.specs.Printed.{hold_lines}

-- ── one plan behind the others ──
module _ (n : ℕ) where
  plans_behind : (many : ℕ) (run : List ℕ) → plans_from (suc many) n run ≡ plans_from many n run ++ (take n (drop (many * n) run) ∷ [])
  unfolding plans_from
  plans_behind zero run = rw zero-mul refl
  plans_behind (suc many) run =
      let place : suc many * n ≡ n + many * n = omega (arith, suc-mul many n) in
      rw (place, ← drop-drop (many * n) n run) (ap (λ (ps : List Plan). take n run ∷ ps) (plans_behind many (drop n run)))

hold_behind : (ps : List Plan) (p : Plan) → hold_lines (ps ++ (p ∷ [])) ≡ hold_lines ps ++ hold_line p
unfolding hold_lines
hold_behind [] p = append-nil (hold_line p)
hold_behind (q ∷ ps) p = ap (λ (l : List ℕ). hold_line q ++ l) (hold_behind ps p) ∙ sym (append_assoc (hold_line q) (hold_lines ps) (hold_line p))

pub lines_none : (n : ℕ) (run : List ℕ) → hold_lines (plans_from 0 n run) ≡ []
unfolding hold_lines plans_from
lines_none n run = refl

pub lines_more : (i n : ℕ) (run : List ℕ)
    → hold_lines (plans_from (i + 1) n run) ≡ hold_lines (plans_from i n run) ++ hold_line (take (i * n + n - i * n) (drop (i * n) run))
lines_more i n run =
    let size : i * n + n - i * n ≡ n = omega arith in
    rw (size, add-one) (ap hold_lines (plans_behind n i run) ∙ hold_behind (plans_from i n run) (take n (drop (i * n) run)))

-- ── how long they are ──
pub lines_short : (n : ℕ) (ps : List Plan) → n ≤ 200 → Sized n ps → length (hold_lines ps) ≤ length ps * 897
unfolding hold_lines
lines_short n [] l s = omega arith
lines_short n (p ∷ ps) l s =
    omega (arith, length-append (hold_line p) (hold_lines ps), hold_short p (omega (arith, s.0)), lines_short n ps l s.1)

pub plans_number : (many n : ℕ) (run : List ℕ) → length (plans_from many n run) ≡ many
unfolding plans_from
plans_number zero n run = refl
plans_number (suc many) n run = ap suc (plans_number many n (drop n run))
