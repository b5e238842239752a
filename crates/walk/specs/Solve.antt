-- The walk of a hall from its first node.
--
-- In order: how many of the plans that tie are kept for what is asked; the state before the first node; the room for what is kept of any
-- hall. Definitions only.
use Rattle.std.specs.Prelude.{ℕ, ◌+◌, ◌*◌, ◌≤◌, None}
use Rattle.walk.specs.declared.kept.State.{State}
use Rattle.walk.specs.declared.solve.Asked.{Asked}
use Rattle.walk.specs.declared.solve.Asked.TheVariants.{Best, Ties}

abbrev pub most_of : Asked → ℕ
most_of Best = 0
most_of Ties = 256

-- nothing counted, and nothing kept; so many plans that tie are asked for
abbrev pub begun : (budget most : ℕ) → State
begun budget most = record { meter = record { budget = budget; count = 0 }; best = None; ties = record { most = most; count = 0 } }

-- there is place for the best plan of any hall, and for each plan that is kept beside it
abbrev pub Spacious : Asked → (room : ℕ) → Type 0
Spacious asked room = 200 + most_of asked * 200 ≤ room
