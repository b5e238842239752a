-- Opening a node: the meter, and steps 1 and 2. 01, "The walk".
--
-- In order: what a node is opened and walked under; the best so far; a node that branches; what opening comes to, whatever walks the
-- children. Definitions only.
use Rattle.std.specs.Prelude.{◌≡◌, List, ℕ, ◌≤◌, length, take, map, Result, Ok, Err}
use Rattle.hall.specs.Hall.{Hall, Plan}
use Rattle.hall.specs.Walk.{Best, Walked, Walker, still, after, through, opening, node}
use Rattle.sheet.specs.Coded.{entry_of}
use Rattle.walk.specs.declared.kept.Price.{Price}
use Rattle.walk.specs.declared.kept.State.{State}
use Rattle.walk.specs.declared.meter.Spent.{Spent}
use Rattle.walk.specs.declared.node.Opening.{Opening}
use Rattle.walk.specs.declared.node.Opening.TheVariants.{Leaf, Branch}
use Rattle.walk.specs.Rules.{Entries}
use Rattle.walk.specs.Best.{Tally, best_of, Shown}
use Rattle.walk.specs.Kept.{Roomy}
use Rattle.walk.specs.Ends.{WentOn, IsSpent}

-- what a node is opened and walked under: its plan p with the plan's price, what is kept with its price, and a meter within its budget
pub record Node (h : Hall) (p kept : List ℕ) (s : State) (price : Price) : Type 0 where
  pub same_plan : length p ≡ length h.costs
  pub roomy : Roomy (length h.costs) kept s.ties
  pub tally : Tally h.costs p price
  pub shown : Shown h.costs s.best (take (length h.costs) kept)
  pub budgeted : s.meter.count ≤ s.meter.budget

-- the best so far, by what is kept of a hall
abbrev pub best_in : Hall → State → (kept : List ℕ) → Best
best_in h s kept = best_of s.best (take (length h.costs) kept)

-- the node alone, before its entries
abbrev pub alone : Plan → Best → Walked
alone p b = opening p (still b)

-- a node was opened, and what is left of it is to go through the entries of a rule, which has these codes
pub record Branches (h : Hall) (p kept : List ℕ) (b : Best) (s : State) (codes : List ℕ) (next : State) (kept' : List ℕ) : Type 0 where
  pub went : WentOn h s kept (alone p b) next kept'
  pub entries : Entries (length p) codes
  pub rest : (child : Walker) → node child h p b ≡ after (alone p b) (through child p (map entry_of codes) b)

-- there was no budget for the node; or its walk is done; or it branches
abbrev pub Opens : Hall → (p kept : List ℕ) → State → Result Opening Spent → (kept' : List ℕ) → Type 0
Opens h p kept s (Err end) kept' = IsSpent s.meter (alone p (best_in h s kept)) end
Opens h p kept s (Ok (Leaf next)) kept' = (child : Walker) → WentOn h s kept (node child h p (best_in h s kept)) next kept'
Opens h p kept s (Ok (Branch rule next)) kept' = Branches h p kept (best_in h s kept) s rule.now next kept'
