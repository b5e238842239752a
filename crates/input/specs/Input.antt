-- The input that was read: as many bytes as the room has, or fewer; of input that could not be read nothing is said. Definitions only.
use Rattle.std.specs.Prelude.{List, ℕ, ◌≤◌, length, Result, IfOk}

abbrev pub Within : {E : Type 0} → Result ℕ E → List ℕ → Type 0
Within r room = IfOk r (λ n. n ≤ length room)
