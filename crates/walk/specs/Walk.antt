-- What the walk is called under, and what is kept of it. 01, "The walk".
--
-- In order: entries of a rule; what a part of the walk leaves: of any part, of the walk of a plan, of the walk through entries.
-- Definitions only.
use Rattle.std.specs.Prelude.{◌≡◌, List, ℕ, length, map, Result}
use Rattle.hall.specs.Hall.{Hall, Plan}
use Rattle.hall.specs.Walk.{Walked, through, walk_from}
use Rattle.sheet.specs.Coded.{entry_of}
use Rattle.walk.specs.declared.kept.Price.{Price}
use Rattle.walk.specs.declared.kept.State.{State}
use Rattle.walk.specs.declared.meter.Spent.{Spent}
use Rattle.walk.specs.Rules.{Entries}
use Rattle.walk.specs.Ends.{Ends}
use Rattle.walk.specs.Node.{Node, best_in}

-- what the entries of a node's rule are gone through under
pub record AtEntries (h : Hall) (codes : List ℕ) (p kept : List ℕ) (s : State) (price : Price) : Type 0 where
  pub node : Node h p kept s price
  pub entries : Entries (length p) codes

-- what is left of a part w of the walk: the plan is as it was, and the code ended as w says
pub record Walks (h : Hall) (s : State) (kept : List ℕ) (w : Walked) (p p' : Plan) (went : Result State Spent) (kept' : List ℕ) : Type 0 where
  pub same : p' ≡ p
  pub ends : Ends h s kept w went kept'

-- what `walk_plan` leaves: the part is the walk from the plan, with the best so far
abbrev pub WalksPlan : Hall → (p kept : List ℕ) → State → Result State Spent → (p' kept' : List ℕ) → Type 0
WalksPlan h p kept s went p' kept' = Walks h s kept (walk_from h p (best_in h s kept)) p p' went kept'

-- what `walk_entries` leaves: the part is step 3 through the entries of these codes
abbrev pub WalksEntries : Hall → (codes p kept : List ℕ) → State → Result State Spent → (p' kept' : List ℕ) → Type 0
WalksEntries h codes p kept s went p' kept' = Walks h s kept (through (walk_from h) p (map entry_of codes) (best_in h s kept)) p p' went kept'
