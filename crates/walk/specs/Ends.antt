-- What the budget does to a walk, or to a part of one: the one place where the code's budget meets the walk of the definitions, which
-- has none.
--
-- In order: the walk went on; it is spent; the two together (`Ends`). One part after another is `ends_then` of proofs/Ends.
-- Definitions only.
use Rattle.std.specs.Prelude.{◌≡◌, List, ℕ, ◌+◌, ◌≤◌, ◌<◌, length, take, Result, Ok, Err}
use Rattle.hall.specs.Hall.{Hall}
use Rattle.hall.specs.Walk.{Walked}
use Rattle.hall.specs.Ties as hall
use Rattle.hall.specs.Ties.{keep_all}
use Rattle.walk.specs.declared.meter.Meter.{Meter}
use Rattle.walk.specs.declared.kept.State.{State}
use Rattle.walk.specs.declared.meter.Spent.{Spent}
use Rattle.walk.specs.Meter.{counted}
use Rattle.walk.specs.Best.{best_of, Shown}
use Rattle.walk.specs.Kept.{Holds}

-- from the state s, with `kept` in its room: the nodes of w are within the budget; exactly they are counted, the best of w lies in front
-- of the room, and of its plans what the definitions keep
pub record WentOn (h : Hall) (s : State) (kept : List ℕ) (w : Walked) (next : State) (kept' : List ℕ) : Type 0 where
  pub within : s.meter.count + w.opened ≤ s.meter.budget
  pub meter : next.meter ≡ counted w.opened s.meter
  pub best : best_of next.best (take (length h.costs) kept') ≡ w.best
  pub shown : Shown h.costs next.best (take (length h.costs) kept')
  pub most : next.ties.most ≡ s.ties.most
  pub ties : (k : hall.Kept) → Holds (length h.costs) s kept k → Holds (length h.costs) next kept' (keep_all h k w.plans)

-- they are not: the budget is spent
pub record IsSpent (mt : Meter) (w : Walked) (end : Spent) : Type 0 where
  pub over : mt.budget < mt.count + w.opened
  pub count : end.opened ≡ mt.budget

-- from there, the walk w ended so
abbrev pub Ends : Hall → State → (kept : List ℕ) → Walked → Result State Spent → (kept' : List ℕ) → Type 0
Ends h s kept w (Ok next) kept' = WentOn h s kept w next kept'
Ends h s kept w (Err end) kept' = IsSpent s.meter w end
