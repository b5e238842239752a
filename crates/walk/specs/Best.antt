-- The best so far, of its price and its plan, and steps 1 and 2 on these. 01, "The walk".
--
-- In order: a plan's price; the best so far; step 1; step 2. `best_plan` is what lies in front of the room of what is kept.
-- Definitions only.
use Rattle.std.specs.Prelude.{◌≡◌, Bool, true, false, cond, List, [], ◌∷◌, ℕ, ◌+◌, Option, Some, None, IfSome}
use Rattle.std.specs.declared.cmp.Ordering.{Ordering}
use Rattle.std.specs.declared.cmp.Ordering.TheVariants.{Less}
use Rattle.std.specs.Ordering.{ordering_then, nat_cmp}
use Rattle.hall.specs.Hall.{Plan}
use Rattle.hall.specs.Order.{cost_of, held_of, less}
use Rattle.hall.specs.Walk.{Best, none_yet, so_far}
use Rattle.walk.specs.declared.kept.Price.{Price}

-- these are a plan's cost and the number of devices that it holds
pub record Tally (costs : List ℕ) (p : Plan) (price : Price) : Type 0 where
  pub cost_is : price.cost ≡ cost_of costs p
  pub held_is : price.held ≡ held_of p

-- the best so far: what lies in its room, where one was found
abbrev pub best_of : Option Price → Plan → Best
best_of None best_plan = none_yet
best_of (Some least) best_plan = so_far best_plan

-- the price is that of the plan that lies there, where one was found
abbrev pub Shown : List ℕ → Option Price → Plan → Type 0
Shown costs best best_plan = IfSome best (Tally costs best_plan)

-- how a plan's price compares with the best's: the cost first, then the held number; where there is no best, it is lower
abbrev pub compared : Option Price → Price → Ordering
compared None price = Less
compared (Some least) price = ordering_then (nat_cmp price.cost least.cost) (nat_cmp price.held least.held)

-- step 1: "if there is none or it is better"
abbrev pub is_better : Option Price → Plan → Plan → Price → Bool
is_better None best_plan p price = true
is_better (Some least) best_plan p price = less (price.cost ∷ price.held ∷ p) (least.cost ∷ least.held ∷ best_plan)

-- step 1: "it becomes the best so far"
pub record Settles (best : Option Price) (best_plan p : Plan) (price : Price) (best' : Option Price) (best_plan' : Plan) : Type 0 where
  pub price_is : best' ≡ cond (is_better best best_plan p price) (Some price) best
  pub written : best_plan' ≡ cond (is_better best best_plan p price) p best_plan

-- step 2: "the node's cost is above the best's, or the costs are equal and the node's held number plus 1 is above the best's"
abbrev pub is_closed : Option Price → Price → Bool
is_closed None price = false
is_closed (Some least) price = less (least.cost ∷ least.held ∷ []) (price.cost ∷ (price.held + 1) ∷ [])
