-- The walk without a budget: how many nodes it opens, which plan is the best at its end, and which plans it opens. 01, "The walk".
--
-- In order: the best so far; steps 1, 2 and 3; a node; the walk from a plan; the walk of a hall. What the budget does to it is
-- said in Answer. The walk of a child is a parameter of a node, so that what holds of a node holds whatever walks its children.
-- Definitions only.
use Rattle.std.specs.Prelude.{Bool, true, false, cond, List, [], ◌∷◌, ◌++◌, ℕ, zero, suc, ◌+◌, ◌-◌, length, replicate}
use Rattle.hall.specs.Hall.{Entry, Rule, Hall, Plan, is_free, hold, meets_all, first_unmet}
use Rattle.hall.specs.Order.{cost_of, held_of, less, better}

-- the best so far
pub data Best : Type 0 where
  none_yet : Best
  so_far : Plan → Best

-- a walk, or a part of one: the number of nodes opened, the best so far at its end, and the plans opened, in their order (so many as
-- nodes: `opened_plans` of proofs/Opened)
pub record Walked : Type 0 where
  pub opened : ℕ
  pub best : Best
  pub plans : List Plan

-- walks a plan to its end, from the best so far
abbrev pub Walker : Type 0
Walker = Plan → Best → Walked

-- step 1: "it becomes the best so far if there is none or it is better"
unfoldable pub keep : List ℕ → Plan → Best → Plan
keep cs p none_yet = p
keep cs p (so_far b) = cond (better cs p b) p b

-- step 2: "the node's held number plus 1", what each plan below a node that does not meet every rule holds at the least
unfoldable pub one_more : Plan → ℕ
one_more p = held_of p + 1

-- step 2: "if there is a best so far and the node's cost is above the best's, or the costs are equal and the node's held number
-- plus 1 is above the best's"
unfoldable pub closes : List ℕ → Plan → Best → Bool
closes cs p none_yet = false
closes cs p (so_far b) = less (cost_of cs b ∷ held_of b ∷ []) (cost_of cs p ∷ one_more p ∷ [])

-- what closes a node that does not meet every rule
unfoldable pub shut : Hall → Plan → Best → Bool
shut h p b = closes h.costs p b

-- no node opened, and the best so far as it was
unfoldable pub still : Best → Walked
still b = record { opened = 0; best = b; plans = [] }

-- one part of a walk after another
unfoldable pub after : Walked → Walked → Walked
after v w = record { opened = v.opened + w.opened; best = w.best; plans = v.plans ++ w.plans }

-- step 3, one entry: "Each entry whose device is free opens a child .. walked to its end before the next entry. An entry whose
-- device is held opens nothing." `rest` goes through the entries after this one
unfoldable pub entry_by : Bool → Walker → Plan → Entry → (Best → Walked) → Best → Walked
entry_by true child p e rest b = let w = child (hold p e) b in after w (rest w.best)
entry_by false child p e rest b = rest b

-- step 3: "go through its entries as written"
unfoldable pub through : Walker → Plan → Rule → Best → Walked
through child p [] b = still b
through child p (e ∷ es) b = entry_by (is_free p e) child p e (through child p es) b

-- "Opening a node adds 1 to the count"
unfoldable pub opening : Plan → Walked → Walked
opening p w = record { opened = suc w.opened; best = w.best; plans = p ∷ w.plans }

-- "At a node, in this order": the first flag says that the plan meets every rule, the second that the node is shut
unfoldable pub node_by : Bool → Bool → Walker → Hall → Plan → Best → Walked
node_by true s child h p b = still (so_far (keep h.costs p b))
node_by false true child h p b = still b
node_by false false child h p b = through child p (first_unmet p h.rules) b

unfoldable pub node : Walker → Hall → Walker
node child h p b = opening p (node_by (meets_all p h.rules) (shut h p b) child h p b)

-- "A node opens its entries, and each entry opens a node in turn": the walk from a plan with at most so many free devices
unfoldable pub walk : Hall → ℕ → Walker
walk h zero = node (λ p b. still b) h
walk h (suc n) = node (walk h n) h

-- the walk from a plan. Its number of free devices is bound enough: walk_from h p b ≡ node (walk_from h) h p b (proofs/Walks)
unfoldable pub walk_from : Hall → Walker
walk_from h p b = walk h (length p - held_of p) p b

-- "the first node holds nothing"
unfoldable pub start : Hall → Plan
start h = replicate (length h.costs) 0

unfoldable pub walk_hall : Hall → Walked
walk_hall h = walk_from h (start h) none_yet
