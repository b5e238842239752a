-- What a walk keeps, in its room: the best plan so far in front, and behind it a run of the plans that tie with it. 02, request 5.
--
-- In order: the tests on the prices; plans in a run; the contracts of the functions that keep a plan; all that is kept, against what the
-- definitions keep (Rattle.hall.specs.Ties). Definitions only.
use Rattle.std.specs.Prelude.{◌≡◌, Bool, true, false, ◌&&◌, List, [], ◌∷◌, ◌++◌, ℕ, suc, ◌+◌, ◌*◌, ◌≤◌, min, length, take, drop, eqb, Option, Some, None}
use Rattle.lists.specs.Lists.{Each}
use Rattle.hall.specs.Hall.{Plan}
use Rattle.hall.specs.Order.{less}
use Rattle.hall.specs.Ties as hall
use Rattle.hall.specs.Ties.{stands_in, noted_by, joined}
use Rattle.walk.specs.declared.kept.Price.{Price}
use Rattle.walk.specs.declared.kept.Ties.{Ties}
use Rattle.walk.specs.declared.kept.State.{State}
use Rattle.walk.specs.Best.{best_of, Settles}

-- a plan of this price is the first, or lower than the best so far in cost or, at equal cost, in held number
abbrev pub is_lower : Option Price → Price → Bool
is_lower None price = true
is_lower (Some least) price = less (price.cost ∷ price.held ∷ []) (least.cost ∷ least.held ∷ [])

-- it has the price of the best so far
abbrev pub is_equal : Option Price → Price → Bool
is_equal None price = false
is_equal (Some least) price = eqb price.cost least.cost && eqb price.held least.held

-- ── plans in a run ──
-- a run begins with the first plans of ts, up to as many as are asked for; counted are those of ts, up to one more
pub record Stored (n : ℕ) (ties : Ties) (run : List ℕ) (ts : List Plan) : Type 0 where
  pub sizes : Each (λ t. length t ≡ n) ts
  pub count : ties.count ≡ min (suc ties.most) (length ts)
  pub rest : List ℕ
  pub front : run ≡ joined (take ties.most ts) ++ rest

-- there is a place in the run for each plan that is asked for
pub record Notable (n : ℕ) (run : List ℕ) (ties : Ties) : Type 0 where
  pub few : ties.most ≤ 256
  pub small : n ≤ 200
  pub long : ties.most * n ≤ length run

-- whether a plan stands among the plans that make up a run
abbrev pub IsNoted : Plan → (run : List ℕ) (count : ℕ) → Bool → Type 0
IsNoted p run count r = (ts : List Plan) → Each (λ t. length t ≡ length p) ts → run ≡ joined ts → count ≡ length ts → r ≡ stands_in p ts

-- a plan that ties is noted; the run is that of whatever plans it was the run of before, with this one once
pub record Notes (p : Plan) (run : List ℕ) (ties r : Ties) (run' : List ℕ) : Type 0 where
  pub most : r.most ≡ ties.most
  pub stores : (ts : List Plan) → Stored (length p) ties run ts → Stored (length p) r run' (noted_by false true p ts)

-- after a plan that meets every rule, whatever its price
pub record Reties (p : Plan) (run : List ℕ) (ties : Ties) (best : Option Price) (price : Price) (r : Ties) (run' : List ℕ) : Type 0 where
  pub most : r.most ≡ ties.most
  pub stores : (ts : List Plan) → Stored (length p) ties run ts → Stored (length p) r run' (noted_by (is_lower best price) (is_equal best price) p ts)

-- ── the room of both ──
-- the best plan has place in front, and behind it each plan that is asked for
pub record Roomy (n : ℕ) (kept : List ℕ) (ties : Ties) : Type 0 where
  pub few : ties.most ≤ 256
  pub small : n ≤ 200
  pub long : n + ties.most * n ≤ length kept

-- step 1 was done in front, and the ties behind
pub record Keeps (p kept : List ℕ) (s : State) (price : Price) (s' : State) (kept' : List ℕ) : Type 0 where
  pub meter : s'.meter ≡ s.meter
  pub settles : Settles s.best (take (length p) kept) p price s'.best (take (length p) kept')
  pub reties : Reties p (drop (length p) kept) s.ties s.best price s'.ties (drop (length p) kept')

-- what lies in the room is what the definitions keep
pub record Holds (n : ℕ) (s : State) (kept : List ℕ) (k : hall.Kept) : Type 0 where
  pub best : k.best ≡ best_of s.best (take n kept)
  pub ties : Stored n s.ties (drop n kept) k.ties
