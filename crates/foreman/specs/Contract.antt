-- The contracts of `list_sheet` and `list_plans`: lines in front of a list's room, which has 230,000 bytes. Definitions only.
use Rattle.std.specs.Prelude.{List, ℕ, ℤ}
use Rattle.printing.specs.Contract.{InRoom}
use Rattle.foreman.specs.Printed.{printed_sheet, printed_for}

-- from the words of a sheet
abbrev pub ListsSheet : List ℤ → (before : List ℕ) (r : ℕ) (after : List ℕ) → Type 0
ListsSheet words = InRoom 230000 (printed_sheet words)

-- from the text that was typed
abbrev pub ListsText : (text before : List ℕ) (r : ℕ) (after : List ℕ) → Type 0
ListsText text = InRoom 230000 (printed_for text)
