-- Releasing a device, the way back from `hold`. 01, "The walk", step 3. Definitions only.
use Rattle.std.specs.Prelude.{set}
use Rattle.hall.specs.Hall.{Entry, device, Plan}

-- the same plan with the entry's device free
unfoldable pub release : Plan → Entry → Plan
release p e = set p (device e) 0
