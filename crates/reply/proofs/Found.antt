-- The contract of `searched`, from those of the search and of `print_answer`.
--
-- In order: the marks behind a plan hold nothing (`held_room`); an answer of the search is printed as the definitions' answer with the
-- same numbers (`same_lines`); so what is printed is what the definitions print for the words (`printed_found`). Assumes nothing.
use mathlib.Core.Path.{◌≡◌, refl, ◌∙◌, ap}
use mathlib.Core.List.{List, [], ◌∷◌, ◌++◌}
use Prim.Native.Nat.{ℕ, zero, suc, ◌≤◌}
use native.Mathlib.Omega.{arith}
use lib.ListN.{length, take, drop, replicate, length-replicate}
use lib.Seq.{take_all}
use lib.IntN.{ℤ}
use Rattle.hall.specs.Order.{held_by, held_from, held_entries}
use Rattle.hall.specs.Answer as hall
use Rattle.hall.specs.Answer.{answer, numbers, room_after}
use Rattle.refusals.proofs.Faults.{fault_kind}
use Rattle.search.specs.Contract.{numbers_of, Finds}
use Rattle.search.proofs.Finds.{result_of, match}
use Rattle.std.specs.Prelude.{Result}
use Rattle.refusals.specs.declared.Refusal.{Refusal}
use Rattle.refusals.specs.declared.Refused.{Refused}
use Rattle.search.specs.declared.Answer.{Answer}
use Rattle.printing.proofs.InRoom.{in_room_as}
use Rattle.reply.specs.Printed.{printed_answer, printed_search}
use Rattle.reply.specs.Contract.{lines_of, Prints, Searched}

-- ── the marks behind a plan ──
free_none : (v k n : ℕ) → held_from v (drop k (replicate n 0)) ≡ []
unfolding held_from
free_none v zero zero = refl
free_none v zero (suc n) = free_none (suc v) zero n
free_none v (suc k) zero = refl
free_none v (suc k) (suc n) = free_none v k n

held_before : (v : ℕ) (plan rest : List ℕ) → ((u : ℕ) → held_from u rest ≡ []) → held_from v (plan ++ rest) ≡ held_from v plan
unfolding held_from
held_before v [] rest none = none v
held_before v (x ∷ plan) rest none = ap (held_by x v) (held_before (suc v) plan rest none)

held_room : (plan after : List ℕ) → after ≡ plan ++ drop (length plan) (replicate 200 0) → length after ≤ 200 → held_entries (take 200 after) ≡ held_entries plan
held_room plan after e l =
    ap held_entries (take_all 200 after l) ∙ ap held_entries e ∙ held_before 0 plan (drop (length plan) (replicate 200 0)) (λ (u : ℕ). free_none u (length plan) 200)

-- ── the same numbers, the same lines ──
module _ (after : List ℕ) (short : length after ≤ 200) where
  same_case : (r : Result Answer (Refused Refusal)) (a : hall.Answer) → r ≡ result_of a → after ≡ room_after a (replicate 200 0) → lines_of r after ≡ printed_answer a
  same_case r (hall.least cost held opened plan) m room = rw (m, held_room plan after room short)
  same_case r (hall.none opened) m room = rw m
  same_case r (hall.spent opened) m room = rw m
  same_case r (hall.refused f place) m room = rw (m, fault_kind f)

  same_lines : (r : Result Answer (Refused Refusal)) (a : hall.Answer) → numbers_of r ≡ numbers a → after ≡ room_after a (replicate 200 0) → lines_of r after ≡ printed_answer a
  same_lines r a e room = same_case r a (match r a e) room

-- ── the whole ──
pub printed_found : (words : List ℤ) (marks : List ℕ) (found : Result Answer (Refused Refusal)) (plan before : List ℕ) (r : ℕ) (after : List ℕ) → marks ≡ replicate 200 0
    → Finds words 1000000 marks found plan → length plan ≡ length marks → Prints found plan before r after → Searched words before r after
printed_found words marks found plan before r after blank finds kept p =
    let n : length marks ≡ 200 = ap length blank ∙ length-replicate {A = ℕ} 200 0 in
    let a = answer words 1000000 200 in
    let told : numbers_of found ≡ numbers a = finds.says ∙ ap (λ (k : ℕ). numbers (answer words 1000000 k)) n in
    let room : plan ≡ room_after a (replicate 200 0) = finds.room ∙ ap (λ (k : ℕ). room_after (answer words 1000000 k) marks) n ∙ ap (room_after a) blank in
    in_room_as 1024 (lines_of found plan) before r after (printed_search words) (same_lines plan (omega arith) found a told room) p
