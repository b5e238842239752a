-- 01's own reading of "meets", before request 3 of document 02: one of the rule's entries is held, and nothing else counts.
--
-- Kept for one theorem: on halls without a rule that names both positions of a device it gives what the reading of request 3 gives
-- (proofs/Readings). In order: all rules and the first one missed; the walk; the answer; a plan that meets the sheet. What a rule's
-- test does not touch is the walk's own (Walk, Answer). Definitions only.
use Rattle.std.specs.Prelude.{◌≡◌, Bool, true, false, cond, ◌&&◌, List, [], ◌∷◌, ℕ, zero, suc, ◌-◌, length, ℤ}
use Rattle.hall.specs.Hall.{Rule, Hall, Plan, PlanOf, holds_one}
use Rattle.hall.specs.Order.{held_of}
use Rattle.hall.specs.Walk.{Best, none_yet, so_far, Walked, Walker, keep, shut, still, through, opening, start}
use Rattle.hall.specs.Reading.{Read, bad, got, decode}
use Rattle.hall.specs.Answer.{Answer, refused, within}

-- an entry of each rule is held
unfoldable pub holds_each : Plan → List Rule → Bool
holds_each p [] = true
holds_each p (r ∷ rs) = holds_one p r && holds_each p rs

-- the first rule none of whose entries is held
unfoldable pub first_unheld : Plan → List Rule → Rule
first_unheld p [] = []
first_unheld p (r ∷ rs) = cond (holds_one p r) (first_unheld p rs) r

-- the walk of Walk, with these two for the test
unfoldable pub held_node_by : Bool → Bool → Walker → Hall → Plan → Best → Walked
held_node_by true s child h p b = still (so_far (keep h.costs p b))
held_node_by false true child h p b = still b
held_node_by false false child h p b = through child p (first_unheld p h.rules) b

unfoldable pub held_node : Walker → Hall → Walker
held_node child h p b = opening p (held_node_by (holds_each p h.rules) (shut h p b) child h p b)

unfoldable pub held_walk : Hall → ℕ → Walker
held_walk h zero = held_node (λ p b. still b) h
held_walk h (suc n) = held_node (held_walk h n) h

unfoldable pub held_walk_hall : Hall → Walked
held_walk_hall h = held_walk h (length (start h) - held_of (start h)) (start h) none_yet

-- the answer of Answer, with that walk
abbrev pub held_answer_read : ℕ → Read Hall → Answer
held_answer_read budget (bad f i) = refused f i
held_answer_read budget (got h i) = within h budget (held_walk_hall h)

unfoldable pub held_answer : List ℤ → ℕ → ℕ → Answer
held_answer ws budget room = held_answer_read budget (decode room ws)

-- a plan of the hall that holds an entry of each rule
pub record HoldsSheet (h : Hall) (p : Plan) : Type 0 where
  pub plan : PlanOf h p
  pub meets : holds_each p h.rules ≡ true
