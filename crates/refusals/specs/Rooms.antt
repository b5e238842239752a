-- The numbers of a refusal where a sheet's answer goes into a lent room. Definitions only.
use Rattle.std.specs.Prelude.{List, [], ◌∷◌, ℕ}
use Rattle.refusals.specs.Contract.{numbers_at}
use Rattle.refusals.specs.declared.RoomRefusal.{RoomRefusal}
use Rattle.refusals.specs.declared.RoomRefusal.TheVariants.{BadSheet, ShortRoom}

-- the sheet's own; or a code of the reader's, and the place
abbrev pub numbers_of : {code : ℕ} → RoomRefusal code → (place : ℕ) → List ℕ
numbers_of (BadSheet kind) place = numbers_at kind place
numbers_of {code} ShortRoom place = code ∷ place ∷ []
