-- The meter of a walk. 01, "The walk".
--
-- In order: a meter with more nodes counted; opening a node. Definitions only.
use Rattle.std.specs.Prelude.{cond, ℕ, ◌+◌, ltb, Result, Ok, Err}
use Rattle.walk.specs.declared.meter.Meter.{Meter}
use Rattle.walk.specs.declared.meter.Spent.{Spent}

-- the meter with so many nodes more
abbrev pub counted : ℕ → Meter → Meter
counted nodes mt = record { budget = mt.budget; count = mt.count + nodes }

-- "Opening a node adds 1 to the count"; "if a node is to be opened and the count already equals the budget, the whole call stops"
abbrev pub admit : Meter → Result Meter Spent
admit mt = cond (ltb mt.count mt.budget) (Ok (counted 1 mt)) (Err (record { opened = mt.count }))
