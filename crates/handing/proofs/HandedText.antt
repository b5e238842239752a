-- The contracts of `hand_sheet` and `hand_over`, case by case.
--
-- In order: the text that was written stands in front of the room (`hands_text`), or the line of a refusal does
-- (`hands_refused`); a typed text that was refused (`hands_mistake`), and one whose sheet was handed over (`hands_words`).
-- Assumes nothing.
use mathlib.Core.Path.{◌≡◌, sym, ◌∙◌, ap, subst}
use mathlib.Core.List.{List, [], ◌∷◌}
use Prim.Native.Nat.{ℕ, ◌-◌}
use native.Mathlib.Omega.{arith}
use lib.ListN.{length, take}
use lib.IntN.{ℤ}
use Rattle.lists.proofs.InFront.{front_stands, rest_stays}
use Rattle.std.specs.Prelude.{Result, Ok, Err}
use Rattle.refusals.specs.declared.Refused.{Refused}
use Rattle.refusals.specs.declared.RoomRefusal.{RoomRefusal}
use Rattle.typed.specs.Text as text
use Rattle.typed.specs.Text.{read_text}
use Rattle.typed.specs.Answer.{Reads}
use Rattle.typed.specs.declared.Mistake.{Mistake}
use Rattle.typed.proofs.WordsRead.{read_words, read_refused}
use Rattle.printing.specs.Lines.{refused_line}
use Rattle.printing.specs.Contract.{PrintsRefused, InRoom}
use Rattle.printing.proofs.InRoom.{in_room_as, refused_in_room}
use Rattle.wcnf.specs.Wcnf as wcnf
use Rattle.wcnf.specs.Wcnf.{writing}
use Rattle.wcnf.specs.Contract.{obstacle_numbers, numbers_written, Writes}
use Rattle.wcnf.specs.declared.Edition.{Edition}
use Rattle.wcnf.proofs.WrittenOnly.{obstacle_large, writing_fits, Told, text_told, refused_told}
use Rattle.handing.specs.Handed.{handed_writing, handed_sheet, handed_reading, handed_for}
use Rattle.handing.specs.Contract.{HandsSheet, Hands}

-- ── a sheet ──
module _ (ws : List ℤ) (edition : Edition) (before : List ℕ) (size_is : length before ≡ 100000) (w : Result ℕ (Refused (RoomRefusal 41))) (between : List ℕ) (x : Writes ws edition before w between) where
  pub hands_text : (size : ℕ) → w ≡ Ok size → HandsSheet ws edition before size between
  unfolding handed_sheet
  hands_text size e = go (text_told ws edition before between size (subst (λ (r : Result ℕ (Refused (RoomRefusal 41))). Writes ws edition before r between) e x))
    where
      go : Told ws edition before between size → InRoom 100000 (handed_writing (writing edition ws 100000)) before size between
      go t =
          let is : writing edition ws 100000 ≡ wcnf.text t.bytes = ap (writing edition ws) (sym size_is) ∙ t.is in
          in_room_as 100000 t.bytes before size between (handed_writing (writing edition ws 100000)) (sym (ap handed_writing is))
          (record {
            size_is = size_is;
            says = t.size;
            fits = omega (arith, t.size, writing_fits edition ws 100000 t.bytes is);
            room = t.room;
            front = rw (t.size, t.room) (front_stands t.bytes before);
            rest = rw (t.size, t.room) (rest_stays t.bytes before);
          })

  -- the line of a refusal is that of what was to be written
  refusal_line : (o : Refused (RoomRefusal 41)) → w ≡ Err o → refused_line (obstacle_numbers o.kind o.place) ≡ handed_sheet edition ws
  unfolding handed_sheet
  refusal_line o e = go (writing edition ws (length before)) (ap (λ (k : ℕ). writing edition ws k) size_is) (refused_told ws edition before between o (subst (λ (r : Result ℕ (Refused (RoomRefusal 41))). Writes ws edition before r between) e x)).0
    where
      go : (y : wcnf.Writing) → y ≡ writing edition ws 100000 → numbers_written y ≡ obstacle_numbers o.kind o.place → refused_line (obstacle_numbers o.kind o.place) ≡ handed_writing (writing edition ws 100000)
      go (wcnf.text t) is says = absurd (omega (arith, obstacle_large o.kind o.place _ (sym says)))
      go (wcnf.bad_sheet f i) is says = ap refused_line (sym says) ∙ ap handed_writing is
      go (wcnf.short_room n) is says = ap refused_line (sym says) ∙ ap handed_writing is

  pub hands_refused : (o : Refused (RoomRefusal 41)) → w ≡ Err o → (r : ℕ) (after : List ℕ) → PrintsRefused (obstacle_numbers o.kind o.place) between r after
      → HandsSheet ws edition before r after
  hands_refused o e r after p =
      let same = (refused_told ws edition before between o (subst (λ (r : Result ℕ (Refused (RoomRefusal 41))). Writes ws edition before r between) e x)).1 in
      in_room_as 100000 (refused_line (obstacle_numbers o.kind o.place)) before r after (handed_sheet edition ws) (refusal_line o e)
      (refused_in_room 100000 (obstacle_numbers o.kind o.place) before r after size_is (omega arith) (rw same at p))

-- ── a typed text ──
module _ (typed : List ℕ) (edition : Edition) (words : List ℤ) (large : length words ≡ 16384) (reading : Result ℕ (Refused Mistake)) (words' : List ℤ) (reads : Reads typed words reading words')
    (before : List ℕ) (r : ℕ) (after : List ℕ) where
  hands : (x : text.Read (List ℤ)) → read_text typed (length words) ≡ x → InRoom 100000 (handed_reading edition x) before r after → Hands typed edition before r after
  unfolding handed_for
  hands x e h =
      in_room_as 100000 (handed_reading edition x) before r after (handed_for edition typed) (ap (handed_reading edition) (sym e) ∙ ap (λ (n : ℕ). handed_reading edition (read_text typed n)) large) h

  pub hands_mistake : (e : Refused Mistake) → reading ≡ Err e → InRoom 100000 (refused_line (text.mistake_code e.kind ∷ e.place ∷ [])) before r after
      → Hands typed edition before r after
  hands_mistake e same h = hands (text.refused e.kind e.place) (read_refused typed words reading words' reads e same) h

  pub hands_words : (w : ℕ) → reading ≡ Ok w → HandsSheet (take (w - 0) words') edition before r after → Hands typed edition before r after
  hands_words w e h = hands (text.got (take (w - 0) words')) (read_words typed words reading words' reads w e) h
