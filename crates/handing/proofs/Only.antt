-- The contract of `hand_over` leaves no choice (`hands_only`), and 41 is never printed: for every text what is printed is the
-- line of a mistake in it, that of its sheet's refusal, or the text of its hall (`Handed`, `is_handed`). Assumes nothing.
use mathlib.Core.Path.{◌≡◌, refl, subst}
use mathlib.Core.Bool.{Bool, true, false}
use mathlib.Core.List.{List, [], ◌∷◌}
use Prim.Native.Nat.{ℕ}
use native.Mathlib.Omega.{arith}
use lib.ListN.{length}
use lib.IntN.{ℤ}
use lib.Dec.{ltb}
use Rattle.hall.specs.Hall.{Hall}
use Rattle.hall.specs.Ranges.{SheetOf}
use Rattle.hall.specs.Due.{Reason}
use Rattle.hall.specs.Reading.{Fault, refusal_numbers, Read, bad, got, decode}
use Rattle.hall.proofs.Reasons.{Verdict, verdict, decoded}
use Rattle.typed.specs.Text as text
use Rattle.typed.specs.Text.{read_text}
use Rattle.typed.specs.declared.Mistake.{Mistake}
use Rattle.printing.specs.Lines.{refused_line}
use Rattle.printing.proofs.InRoom.{in_room_only}
use Rattle.wcnf.specs.Wcnf as wcnf
use Rattle.wcnf.specs.Wcnf.{writing}
use Rattle.wcnf.specs.declared.Edition.{Edition}
use Rattle.wcnf.proofs.WrittenOnly.{never_short}
use Rattle.handing.specs.Handed.{handed_writing, handed_sheet, handed_reading, handed_for}
use Rattle.handing.specs.Contract.{Hands}

pub hands_only : (text : List ℕ) (edition : Edition) (before : List ℕ) (r r' : ℕ) (after after' : List ℕ) → Hands text edition before r after
    → Hands text edition before r' after' → (r ≡ r') × (after ≡ after')
hands_only text edition = in_room_only 100000 (handed_for edition text)

-- what is printed for a typed text, in an edition
pub data Handed (edition : Edition) (typed : List ℕ) : List ℕ → Type 0 where
  mistake : (m : Mistake) (place : ℕ) → read_text typed 16384 ≡ text.refused m place → Handed edition typed (refused_line (text.mistake_code m ∷ place ∷ []))
  refusal : (ws : List ℤ) (f : Fault) (place : ℕ) → read_text typed 16384 ≡ text.got ws → Reason f place ws 200 → Handed edition typed (refused_line (refusal_numbers f place))
  hall : (ws : List ℤ) (h : Hall) → read_text typed 16384 ≡ text.got ws → SheetOf h ws 200 → Handed edition typed (wcnf.wcnf edition h)

of_sheet : (edition : Edition) (typed : List ℕ) (ws : List ℤ) → read_text typed 16384 ≡ text.got ws → Handed edition typed (handed_sheet edition ws)
unfolding handed_sheet writing
of_sheet edition typed ws e = go (decode 200 ws) refl (never_short edition ws 100000 (omega arith))
  where
    go : (x : Read Hall) → decode 200 ws ≡ x → ((needed : ℕ) → wcnf.writing_read edition 100000 x ≡ wcnf.short_room needed → ⊥) → Handed edition typed (handed_writing (wcnf.writing_read edition 100000 x))
    go (bad f place) is never = refusal ws f place e (subst (Verdict ws 200) is (verdict ws 200))
    go (got h j) is never = by (ltb 100000 (length (wcnf.wcnf edition h))) never
      where
        by : (b : Bool) → ((needed : ℕ) → wcnf.writing_by b (wcnf.wcnf edition h) ≡ wcnf.short_room needed → ⊥) → Handed edition typed (handed_writing (wcnf.writing_by b (wcnf.wcnf edition h)))
        by true never = absurd (never (length (wcnf.wcnf edition h)) refl)
        by false never = hall ws h e (decoded ws 200 h j is)

pub is_handed : (edition : Edition) (typed : List ℕ) → Handed edition typed (handed_for edition typed)
unfolding handed_for
is_handed edition typed = go (read_text typed 16384) refl
  where
    go : (x : text.Read (List ℤ)) → read_text typed 16384 ≡ x → Handed edition typed (handed_reading edition x)
    go (text.refused m place) e = mistake m place e
    go (text.got ws) e = of_sheet edition typed ws e
