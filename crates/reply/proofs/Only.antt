-- The contracts leave no choice: two results that `print_answer`'s contract allows are equal (`prints_only`), and so are two that
-- `answer`'s allows (`replies_only`) or `answer_file`'s (`replies_file_only`). Assumes nothing.
use mathlib.Core.Path.{◌≡◌}
use mathlib.Core.List.{List}
use Prim.Native.Nat.{ℕ}
use Rattle.std.specs.Prelude.{Result}
use Rattle.refusals.specs.declared.Refusal.{Refusal}
use Rattle.refusals.specs.declared.Refused.{Refused}
use Rattle.search.specs.declared.Answer.{Answer}
use Rattle.printing.proofs.InRoom.{in_room_only}
use Rattle.reply.specs.Printed.{printed_for, printed_for_file}
use Rattle.reply.specs.Contract.{lines_of, Prints, Replies, RepliesFile}

pub prints_only : (answer : Result Answer (Refused Refusal)) (plan before : List ℕ) (r r' : ℕ) (after after' : List ℕ) → Prints answer plan before r after
    → Prints answer plan before r' after' → (r ≡ r') × (after ≡ after')
prints_only answer plan = in_room_only 1024 (lines_of answer plan)

pub replies_only : (text before : List ℕ) (r r' : ℕ) (after after' : List ℕ) → Replies text before r after → Replies text before r' after'
    → (r ≡ r') × (after ≡ after')
replies_only text = in_room_only 1024 (printed_for text)

pub replies_file_only : (text before : List ℕ) (r r' : ℕ) (after after' : List ℕ) → RepliesFile text before r after → RepliesFile text before r' after'
    → (r ≡ r') × (after ≡ after')
replies_file_only text = in_room_only 1024 (printed_for_file text)
