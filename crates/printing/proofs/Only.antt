-- The contracts leave no choice: two results that the contract of a function that puts bytes allows have the same room and the same place
-- (`puts_only`), and so have two that the contract of one that puts a line allows (`line_only`), and two that the contract of
-- `print_refused` allows (`refused_only`). Assumes nothing.
use mathlib.Core.Path.{◌≡◌, sym, ◌∙◌}
use mathlib.Core.List.{List}
use Prim.Native.Nat.{ℕ}
use Rattle.printing.specs.declared.Page.{Page}
use Rattle.printing.specs.Contract.{Puts, PutsLine, PrintsRefused}

pub puts_only : (bytes : List ℕ) (before after after' : Page) → Puts bytes before after → Puts bytes before after'
    → (after.at ≡ after'.at) × (after.room.now ≡ after'.room.now)
puts_only bytes before after after' p q = (p.stores.ends ∙ sym q.stores.ends, p.stores.leaves ∙ sym q.stores.leaves)

pub line_only : (word numbers : List ℕ) (before after after' : Page) → PutsLine word numbers before after → PutsLine word numbers before after'
    → (after.at ≡ after'.at) × (after.room.now ≡ after'.room.now)
line_only word numbers before after after' p q = puts_only _ before after after' p.puts q.puts

pub refused_only : (numbers before : List ℕ) (r r' : ℕ) (after after' : List ℕ) → PrintsRefused numbers before r after → PrintsRefused numbers before r' after'
    → (r ≡ r') × (after ≡ after')
refused_only numbers before r r' after after' p q = (p.stores.ends ∙ sym q.stores.ends, p.stores.leaves ∙ sym q.stores.leaves)
