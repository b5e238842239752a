-- Two results that the contract of `leastplan_search` allows for the same call are equal: the numbers, and the plan room with them
-- (`searches_only`); so are two that the contract of `leastplan_cnf_read` allows (`reads_file_only`), two that the contract of
-- `leastplan_wcnf_write` allows (`writes_text_only`), and two that the contract of `leastplan_ties` allows (`lists_plans_only`). Assumes
-- nothing.
use mathlib.Core.Path.{◌≡◌, sym, ◌∙◌}
use mathlib.Core.List.{List}
use Prim.Native.Nat.{ℕ}
use lib.IntN.{ℤ}
use Rattle.exported.specs.Exported.{Searches, ReadsFile, WritesText, ListsPlans}

pub searches_only : (ws : List ℤ) (budget : ℕ) (before numbers after after' told told' : List ℕ) → Searches ws budget before numbers after told → Searches ws budget before numbers after' told' → (told ≡ told') × (after ≡ after')
searches_only ws budget before numbers after after' told told' h k = (h.told ∙ sym k.told, h.room ∙ sym k.room)

pub reads_file_only : (text : List ℕ) (before : List ℤ) (numbers : List ℕ) (after after' : List ℤ) (told told' : List ℕ) → ReadsFile text before numbers after told
    → ReadsFile text before numbers after' told' → (told ≡ told') × (after ≡ after')
reads_file_only text before numbers after after' told told' h k = (h.told ∙ sym k.told, h.room ∙ sym k.room)

pub writes_text_only : (ws : List ℤ) (edition : ℕ) (before numbers after after' told told' : List ℕ) → WritesText ws edition before numbers after told
    → WritesText ws edition before numbers after' told' → (told ≡ told') × (after ≡ after')
writes_text_only ws edition before numbers after after' told told' h k = (h.told ∙ sym k.told, h.room ∙ sym k.room)

pub lists_plans_only : (ws : List ℤ) (budget : ℕ) (before numbers after after' told told' : List ℕ) → ListsPlans ws budget before numbers after told
    → ListsPlans ws budget before numbers after' told' → (told ≡ told') × (after ≡ after')
lists_plans_only ws budget before numbers after after' told told' h k = (h.told ∙ sym k.told, h.room ∙ sym k.room)
