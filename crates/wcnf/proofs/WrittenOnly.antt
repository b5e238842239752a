-- What the contract of `write` gives its caller, and that it leaves no choice.
--
-- In order: the numbers of a refusal and of an answer tell it (`obstacle_large`, `obstacle_only`, `numbers_injective`), so two
-- results that the contract allows are equal (`writes_only`); a sheet is refused exactly for its reason (`refused_where`), else
-- its text is written where it fits (`text_where`) and 41 told where it does not (`short_where`); a text that goes to a room
-- fits it (`writing_fits`), and a room of 98,957 bytes is never too short (`never_short`); what a caller knows of a text
-- (`text_told`) and of a refusal (`refused_told`). Assumes nothing.
use mathlib.Core.Path.{◌≡◌, refl, sym, ◌∙◌, ap, subst}
use mathlib.Core.Logic.{◌↔◌}
use mathlib.Core.Bool.{Bool, true, false}
use mathlib.Core.List.{List, [], ◌∷◌}
use Prim.Native.Nat.{ℕ, ◌≤◌, ◌<◌}
use native.Mathlib.Omega.{arith}
use lib.ListN.{length, get_or}
use lib.IntN.{ℤ}
use lib.Dec.{ltb}
use borrow.Author.Tests.{ltb-true, ltb-false, lt-ltb, le-ltb}
use Rattle.lists.specs.Lists.{in_front}
use Rattle.hall.specs.Hall.{Hall}
use Rattle.hall.specs.Ranges.{SheetOf}
use Rattle.hall.specs.Due.{Reason}
use Rattle.hall.specs.Reading.{Read, bad, got, decode}
use Rattle.hall.proofs.Reasons.{decoded, verdict_only}
use Rattle.hall.proofs.Refusals.{code_large, tells}
use Rattle.refusals.specs.Contract.{fault_of, numbers_at}
use Rattle.refusals.specs.declared.Refusal.{Refusal}
use Rattle.refusals.specs.declared.Refused.{Refused}
use Rattle.refusals.specs.declared.RoomRefusal.TheVariants.{BadSheet, ShortRoom}
use Rattle.std.specs.Prelude.{Ok, Err}
use Rattle.refusals.proofs.Only.{refusal_only}
use Rattle.wcnf.specs.declared.Edition.{Edition}
use Rattle.wcnf.specs.Wcnf.{wcnf, Writing, text, bad_sheet, short_room, writing_by, writing_read, writing}
use Rattle.wcnf.specs.Contract.{Obstacle, Written, obstacle_numbers, numbers_of, numbers_written, room_after, Justified, Writes}
use Rattle.wcnf.proofs.WrittenSize.{text_fits}

-- ── one answer, one room ──
small_code : (k : Refusal) (place needed : ℕ) → numbers_at k place ≡ 41 ∷ needed ∷ [] → ⊥
small_code k place needed e = let t = (tells (fault_of k) place).small in omega (arith, ap (λ (l : List ℕ). get_or l 0 0) e)

-- no refusal has the code 0
pub obstacle_large : (o : Obstacle) (place : ℕ) (numbers : List ℕ) → obstacle_numbers o place ≡ numbers → 11 ≤ get_or numbers 0 0
obstacle_large (BadSheet k) place numbers e = code_large (fault_of k) place numbers e
obstacle_large ShortRoom place numbers e = subst (λ (l : List ℕ). 11 ≤ get_or l 0 0) e (omega arith)

pub obstacle_only : (o q : Obstacle) (i j : ℕ) → obstacle_numbers o i ≡ obstacle_numbers q j → (o ≡ q) × (i ≡ j)
obstacle_only (BadSheet k) (BadSheet l) i j e = let x = refusal_only k l i j e in (ap BadSheet x.0, x.1)
obstacle_only (BadSheet k) ShortRoom i j e = absurd (small_code k i j e)
obstacle_only ShortRoom (BadSheet l) i j e = absurd (small_code l j i (sym e))
obstacle_only ShortRoom ShortRoom i j e = (refl, cc)

pub numbers_injective : (r s : Written) → numbers_of r ≡ numbers_of s → r ≡ s
numbers_injective (Ok w) (Ok v) e = ap Ok (cc)
numbers_injective (Ok w) (Err q) e = absurd (omega (arith, obstacle_large q.kind q.place _ (sym e)))
numbers_injective (Err o) (Ok v) e = absurd (omega (arith, obstacle_large o.kind o.place _ e))
numbers_injective (Err o) (Err q) e = let x = obstacle_only o.kind q.kind o.place q.place e in ap Err (rw (x.0, x.1))

module _ (ws : List ℤ) (edition : Edition) (before : List ℕ) where
  pub writes_only : (r r' : Written) (after after' : List ℕ) → Writes ws edition before r after → Writes ws edition before r' after' → (r ≡ r') × (after ≡ after')
  writes_only r r' after after' h k = (numbers_injective r r' (h.says ∙ sym k.says), h.room ∙ sym k.room)

-- ── each answer where it is due ──
module _ (ws : List ℤ) (edition : Edition) (before : List ℕ) (r : Written) (after : List ℕ) (x : Writes ws edition before r after) where
  -- a sheet is refused exactly for its reason
  pub refused_where : (k : Refusal) (place : ℕ) → (r ≡ Err (record { kind = BadSheet k; place = place })) ↔ Reason (fault_of k) place ws 200
  unfolding writing
  refused_where k place = (
    (λ e. subst (λ (r : Written). Justified ws edition (length before) r after) e x.reason),
    (λ reason.
        numbers_injective r (Err (record { kind = BadSheet k; place = place }))
        (x.says ∙ ap (λ (y : Read Hall). numbers_written (writing_read edition (length before) y)) (verdict_only ws 200 (bad (fault_of k) place) reason))),
  )

  module _ (h : Hall) (sheet : SheetOf h ws 200) where
    writing_is : writing edition ws (length before) ≡ writing_by (ltb (length before) (length (wcnf edition h))) (wcnf edition h)
    unfolding writing
    writing_is = ap (writing_read edition (length before)) (verdict_only ws 200 (got h (length ws)) (sheet, refl))

    -- the text of an accepted sheet is written wherever it fits
    pub text_where : length (wcnf edition h) ≤ length before → (r ≡ Ok (length (wcnf edition h))) × (after ≡ in_front (wcnf edition h) before)
    text_where fits =
        let is = writing_is ∙ ap (λ (b : Bool). writing_by b (wcnf edition h)) (le-ltb (length before) (length (wcnf edition h)) fits) in
        (numbers_injective r (Ok (length (wcnf edition h))) (x.says ∙ ap numbers_written is), x.room ∙ ap (λ (w : Writing). room_after w before) is)

    -- 41 wherever it does not, with the length needed
    pub short_where : length before < length (wcnf edition h) → (r ≡ Err (record { kind = ShortRoom; place = length (wcnf edition h) })) × (after ≡ before)
    short_where short =
        let is = writing_is ∙ ap (λ (b : Bool). writing_by b (wcnf edition h)) (lt-ltb (length before) (length (wcnf edition h)) short) in
        (numbers_injective r (Err (record { kind = ShortRoom; place = length (wcnf edition h) })) (x.says ∙ ap numbers_written is), x.room ∙ ap (λ (w : Writing). room_after w before) is)

-- ── what is to be written ──
-- a text that goes to a room fits it
pub writing_fits : (edition : Edition) (ws : List ℤ) (room : ℕ) (t : List ℕ) → writing edition ws room ≡ text t → length t ≤ room
unfolding writing
writing_fits edition ws room t e = go (decode 200 ws) e
  where
    by : (b : Bool) (u : List ℕ) → ltb room (length u) ≡ b → writing_by b u ≡ text t → length t ≤ room
    by true u test e = absurd (let z : ◌≡◌ {A = ℕ} 0 1 = cc in omega arith)
    by false u test e = let same : u ≡ t = cc in let l = ltb-false room (length u) test in omega (arith, ap length same)

    go : (x : Read Hall) → writing_read edition room x ≡ text t → length t ≤ room
    go (bad f i) e = absurd (let z : ◌≡◌ {A = ℕ} 0 1 = cc in omega arith)
    go (got h j) e = by (ltb room (length (wcnf edition h))) (wcnf edition h) refl e

-- 41 is not given for a room of 98,957 bytes or more
pub never_short : (edition : Edition) (ws : List ℤ) (room : ℕ) → 98957 ≤ room → (needed : ℕ) → writing edition ws room ≡ short_room needed → ⊥
unfolding writing
never_short edition ws room large needed e = go (decode 200 ws) refl e
  where
    by : (b : Bool) (u : List ℕ) → ltb room (length u) ≡ b → length u ≤ 98957 → writing_by b u ≡ short_room needed → ⊥
    by true u test short e = let l = ltb-true room (length u) test in omega arith
    by false u test short e = let z : ◌≡◌ {A = ℕ} 0 1 = cc in omega arith

    go : (x : Read Hall) → decode 200 ws ≡ x → writing_read edition room x ≡ short_room needed → ⊥
    go (bad f i) is e = let z : ◌≡◌ {A = ℕ} 0 1 = cc in omega arith
    go (got h j) is e = by (ltb room (length (wcnf edition h))) (wcnf edition h) refl (text_fits (decoded ws 200 h j is) edition) e

-- ── what a caller knows ──
module _ (ws : List ℤ) (edition : Edition) (before after : List ℕ) where
  -- the text that was written
  pub record Told (w : ℕ) : Type 0 where
    pub bytes : List ℕ
    pub is : writing edition ws (length before) ≡ text bytes
    pub size : w ≡ length bytes
    pub room : after ≡ in_front bytes before

  pub text_told : (w : ℕ) → Writes {code = 41} ws edition before (Ok w) after → Told w
  text_told w x = go (writing edition ws (length before)) refl x.says x.room
    where
      go : (y : Writing) → writing edition ws (length before) ≡ y → 0 ∷ w ∷ [] ≡ numbers_written y → after ≡ room_after y before → Told w
      go (text t) is says room = record { bytes = t; is = is; size = cc; room = room }
      go (bad_sheet f i) is says room = absurd (omega (arith, code_large f i _ (sym says)))
      go (short_room n) is says room = absurd (let z : ◌≡◌ {A = ℕ} 0 41 = cc in omega arith)

  -- of a refusal the numbers are those of what was to be written, and the room is as it was
  pub refused_told : (o : Refused Obstacle) → Writes ws edition before (Err o) after
      → (numbers_written (writing edition ws (length before)) ≡ obstacle_numbers o.kind o.place) × (after ≡ before)
  refused_told o x = (sym x.says, go (writing edition ws (length before)) x.says x.room)
    where
      go : (y : Writing) → obstacle_numbers o.kind o.place ≡ numbers_written y → after ≡ room_after y before → after ≡ before
      go (text t) says room = absurd (omega (arith, obstacle_large o.kind o.place _ says))
      go (bad_sheet f i) says room = room
      go (short_room n) says room = room
