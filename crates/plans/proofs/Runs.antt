-- The plans in a run.
--
-- In order: a run and its plans, by computation (`runs_right`); each has n marks (`plans_sized`); no plans of no marks (`plans_none`); the
-- first plan of a run (`whole`), and none where it has fewer marks (`no_whole`); plans joined are as long as they are
-- together (`joined_length`), and the plans in them are those plans (`plans_joined`), also where more stands behind them
-- (`plans_in_front`); the plans in a run, joined, are no longer than it (`plans_short`), in order neither (`order_short`). Assumes nothing.
use mathlib.Core.Path.{◌≡◌, refl, ◌∙◌}
use mathlib.Core.Bool.{Bool, true, false}
use mathlib.Core.List.{List, [], ◌∷◌, ◌++◌, append_assoc}
use Prim.Native.Nat.{ℕ, zero, suc, ◌+◌, ◌*◌, ◌/◌, ◌≤◌, ◌<◌}
use native.Mathlib.Nat.{div-eq_of_lt, div-eq-sub-div, div-zero, div-mul-le_self, suc-mul}
use native.Mathlib.Numerals.{add-one}
use native.Mathlib.Omega.{arith}
use lib.ListN.{length, take, drop, length-append, length-take, length-drop}
use lib.Seq.{length-take-le, take_at, drop_at}
use Rattle.lists.specs.Lists.{Each}
use Rattle.hall.specs.Hall.{Plan}
use Rattle.hall.specs.Order.{less}
use Rattle.hall.specs.Ties.{place_by, place, in_order, joined}
use Rattle.plans.specs.Runs.{plans_from, plans_in}

-- plans of two marks each, and one mark left over
pub runs_right : plans_in 2 (2 ∷ 0 ∷ 0 ∷ 1 ∷ 2 ∷ 0 ∷ 1 ∷ []) ≡ (2 ∷ 0 ∷ []) ∷ (0 ∷ 1 ∷ []) ∷ (2 ∷ 0 ∷ []) ∷ []
unfolding plans_in plans_from
runs_right = refl

-- ── how long they are ──
abbrev pub Sized : ℕ → List Plan → Type 0
Sized n ps = Each (λ (p : Plan). length p ≡ n) ps

sized_from : (many n : ℕ) (run : List ℕ) → many * n ≤ length run → Sized n (plans_from many n run)
unfolding plans_from
sized_from zero n run l = tt
sized_from (suc many) n run l =
    let s = suc-mul many n in
    (length-take-le n run (omega arith), sized_from many n (drop n run) (omega (arith, length-drop n run)))

pub plans_sized : (n : ℕ) (run : List ℕ) → Sized n (plans_in n run)
unfolding plans_in
plans_sized n run = sized_from (length run / n) n run (div-mul-le_self (length run) n)

-- ── the first of them ──
pub plans_none : (n : ℕ) (run : List ℕ) → n ≡ 0 → plans_in n run ≡ []
unfolding plans_in plans_from
plans_none n run e = rw (e, div-zero (length run)) refl

pub whole : (n : ℕ) (run : List ℕ) → 0 < n → n ≤ length run → plans_in n run ≡ take n run ∷ plans_in n (drop n run)
unfolding plans_in plans_from
whole n run s l = rw (div-eq-sub-div s l, add-one, length-drop n run) refl

pub no_whole : (n : ℕ) (run : List ℕ) → length run < n → plans_in n run ≡ []
unfolding plans_in plans_from
no_whole n run l = rw (div-eq_of_lt l) refl

-- ── joined ──
pub joined_length : (n : ℕ) (ts : List Plan) → Sized n ts → length (joined ts) ≡ length ts * n
unfolding joined
joined_length n [] s = omega arith
joined_length n (t ∷ ts) s = omega (arith, length-append t (joined ts), joined_length n ts s.1, s.0, suc-mul (length ts) n)

pub plans_joined : (n : ℕ) (ts : List Plan) → 0 < n → Sized n ts → plans_in n (joined ts) ≡ ts
unfolding joined
plans_joined n [] p s = no_whole n [] p
plans_joined n (t ∷ ts) p s =
    whole n (t ++ joined ts) p (omega (arith, length-append t (joined ts), s.0))
    ∙ rw (take_at t (joined ts) n s.0, drop_at t (joined ts) n s.0, plans_joined n ts p s.1) refl

pub plans_in_front : (n : ℕ) (ts : List Plan) (rest : List ℕ) → Sized n ts → plans_from (length ts) n (joined ts ++ rest) ≡ ts
unfolding joined plans_from
plans_in_front n [] rest s = refl
plans_in_front n (t ∷ ts) rest s =
    rw (append_assoc t (joined ts) rest, take_at t (joined ts ++ rest) n s.0, drop_at t (joined ts ++ rest) n s.0, plans_in_front n ts rest s.1) refl

short_from : (many n : ℕ) (run : List ℕ) → length (joined (plans_from many n run)) ≤ length run
unfolding plans_from joined
short_from zero n run = omega arith
short_from (suc many) n run =
    omega (arith, length-append (take n run) (joined (plans_from many n (drop n run))), length-take n run, short_from many n (drop n run), length-drop n run)

pub plans_short : (n : ℕ) (run : List ℕ) → length (joined (plans_in n run)) ≤ length run
unfolding plans_in
plans_short n run = short_from (length run / n) n run

place_short : (p : Plan) (qs : List Plan) → length (joined (place p qs)) ≤ length p + length (joined qs)
unfolding place place_by joined
place_short p [] = omega (arith, length-append p [])
place_short p (q ∷ qs) = go (less p q) (less q p) (place_short p qs)
  where
    go : (before behind : Bool) → length (joined (place p qs)) ≤ length p + length (joined qs)
        → length (joined (place_by before behind p q qs (place p qs))) ≤ length p + length (joined (q ∷ qs))
    go true behind ih = omega (arith, length-append p (joined (q ∷ qs)))
    go false true ih = omega (arith, length-append q (joined (place p qs)), length-append q (joined qs))
    go false false ih = omega arith

pub order_short : (ps : List Plan) → length (joined (in_order ps)) ≤ length (joined ps)
unfolding in_order joined
order_short [] = omega arith
order_short (p ∷ ps) = omega (arith, place_short p (in_order ps), order_short ps, length-append p (joined ps))
