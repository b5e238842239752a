-- The contracts of `put_answer`, `print_answer`, `answer` and `answer_file`: lines in front of a reply's room, which has 1,024 bytes.
--
-- In order: the lines of an answer and a plan room; the contracts, each by its lines. Definitions only.
use Rattle.std.specs.Prelude.{◌≤◌, List, ℕ, length, take, ℤ, Result}
use Rattle.refusals.specs.declared.Refusal.{Refusal}
use Rattle.refusals.specs.declared.Refused.{Refused}
use Rattle.search.specs.declared.Answer.{Answer}
use Rattle.search.specs.Contract.{answer_of}
use Rattle.printing.specs.declared.Page.{Page}
use Rattle.printing.specs.Contract.{Puts, InRoom}
use Rattle.reply.specs.Printed.{printed_answer, printed_search, printed_for, printed_for_file}

-- the lines of an answer, of a plan room of 200 marks
abbrev pub lines_of : Result Answer (Refused Refusal) → List ℕ → List ℕ
lines_of answer plan = printed_answer (answer_of answer (take 200 plan))

-- the contract of `put_answer`: these lines were put on a page, and have place in a reply's room
pub record PutsAnswer (answer : Result Answer (Refused Refusal)) (plan : List ℕ) (before after : Page) : Type 0 where
  pub puts : Puts (lines_of answer plan) before after
  pub short : length (lines_of answer plan) ≤ 1024

-- the contract of `print_answer`
abbrev pub Prints : Result Answer (Refused Refusal) → (plan before : List ℕ) (r : ℕ) (after : List ℕ) → Type 0
Prints answer plan = InRoom 1024 (lines_of answer plan)

-- the contract of `searched`: from the words of a sheet to the bytes that are printed
abbrev pub Searched : List ℤ → (before : List ℕ) (r : ℕ) (after : List ℕ) → Type 0
Searched words = InRoom 1024 (printed_search words)

-- the contract of `answer`: from the text that was typed
abbrev pub Replies : (text before : List ℕ) (r : ℕ) (after : List ℕ) → Type 0
Replies text = InRoom 1024 (printed_for text)

-- the contract of `answer_file`: from the bytes of a DIMACS file
abbrev pub RepliesFile : (text before : List ℕ) (r : ℕ) (after : List ℕ) → Type 0
RepliesFile text = InRoom 1024 (printed_for_file text)
