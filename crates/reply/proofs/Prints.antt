-- The contract of `put_answer`, for each case of the answer (`puts_least`, `puts_none`, `puts_spent`), and that of `print_answer`
-- (`prints_found`, `prints_refused`). Each line of numbers has place, by its contract, and so has the line of the held devices behind it.
-- Assumes nothing.
use mathlib.Core.Path.{◌≡◌, refl, subst}
use mathlib.Core.List.{List, [], ◌∷◌, ◌++◌}
use Prim.Native.Nat.{ℕ, ◌≤◌}
use native.Mathlib.Omega.{arith}
use lib.ListN.{length, length-append}
use lib.Seq.{take_all}
use Rattle.lists.specs.Bytes.{bytes}
use Rattle.std.specs.Prelude.{Result, Ok, Err}
use Rattle.refusals.specs.declared.Refusal.{Refusal}
use Rattle.refusals.specs.declared.Refused.{Refused}
use Rattle.refusals.specs.Contract.{numbers_at}
use Rattle.typed.specs.Printing.{digits_of}
use Rattle.search.specs.declared.Answer.{Answer}
use Rattle.search.specs.declared.Answer.TheVariants.{Least, None, Spent}
use Rattle.printing.specs.declared.Page.{Page}
use Rattle.printing.specs.Lines.{line, hold_line}
use Rattle.printing.specs.Contract.{Puts, PutsLine}
use Rattle.printing.proofs.Lengths.{hold_short}
use Rattle.printing.proofs.Putting.{puts_then}
use Rattle.printing.proofs.InRoom.{Filled, put_in_room}
use Rattle.reply.specs.Contract.{lines_of, PutsAnswer, Prints}

-- ── an answer that is no refusal ──
module _ (answer : Answer) (plan : List ℕ) (start end : Page) where
  puts_lines : (lines : List ℕ) → lines ≡ lines_of (Ok answer) plan → length lines ≤ 1024 → Puts lines start end → PutsAnswer (Ok answer) plan start end
  puts_lines lines e fits p = record { puts = rw (← e) p; short = rw (← e) fits }

  -- `h` and `o` are the numbers as they are printed, which are wider
  pub puts_least : (cost held opened h o : ℕ) (next : Page) → answer ≡ Least cost held opened → h ≡ held → o ≡ opened
      → PutsLine (bytes "least") (cost ∷ h ∷ o ∷ []) start next → length plan ≡ 200 → Puts (hold_line plan) next end → PutsAnswer (Ok answer) plan start end
  puts_least cost held opened h o next e same number p marks q =
      let first = line (bytes "least") digits_of (cost ∷ h ∷ o ∷ []) in
      puts_lines (first ++ hold_line plan) (rw (e, take_all 200 plan (omega arith), same, number) refl)
      (omega (arith, length-append first (hold_line plan), p.short, hold_short plan (omega arith))) (puts_then p.puts q)

  pub puts_none : (opened o : ℕ) → answer ≡ None opened → o ≡ opened → PutsLine (bytes "none") (o ∷ []) start end → PutsAnswer (Ok answer) plan start end
  puts_none opened o e number p = puts_lines _ (rw (e, number) refl) (omega (arith, p.short)) p.puts

  pub puts_spent : (opened o : ℕ) → answer ≡ Spent opened → o ≡ opened → PutsLine (bytes "spent") (o ∷ []) start end → PutsAnswer (Ok answer) plan start end
  puts_spent opened o e number p = puts_lines _ (rw (e, number) refl) (omega (arith, p.short)) p.puts

-- ── the room ──
module _ (answer : Result Answer (Refused Refusal)) (plan before : List ℕ) (r : ℕ) (after : List ℕ) (start end : Page) (filled : Filled before start end r after) (size : length before ≡ 1024) where
  pub prints_found : (found : Answer) → answer ≡ Ok found → PutsAnswer (Ok found) plan start end → Prints answer plan before r after
  prints_found found e p = rw e (put_in_room 1024 (lines_of (Ok found) plan) before r after start end filled size p.short p.puts)

  -- `numbers` and `k` are the refusal's numbers and how many they are, as the code has them
  pub prints_refused : (e : Refused Refusal) (numbers : List ℕ) (k : ℕ) → answer ≡ Err e → PutsLine (bytes "refused") numbers start end → numbers ≡ numbers_at e.kind e.place
      → k ≡ length (numbers_at e.kind e.place) → k ≤ 3 → Prints answer plan before r after
  prints_refused e numbers k same p told many few =
      let q : PutsLine (bytes "refused") (numbers_at e.kind e.place) start end = subst (λ (l : List ℕ). PutsLine (bytes "refused") l start end) told p in
      rw same (put_in_room 1024 (lines_of (Err e) plan) before r after start end filled size (omega (arith, q.short)) q.puts)
