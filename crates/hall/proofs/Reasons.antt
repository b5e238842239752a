-- Demand 1: each refusal is given only for its reason, and wherever its reason holds; every list of words has exactly one
-- verdict.
--
-- In order: what stopped the hall's reader is a reason, and the other way round (`stopped_reason`, `reason_stopped`); the
-- decoder's result has its reason, or is the sheet's hall (`verdict`); nothing else does (`verdict_only`). Assumes nothing.
use mathlib.Core.Path.{◌≡◌, refl, sym, ◌∙◌, ap, subst}
use mathlib.Core.Logic.{inl, inr, ◌≢◌}
use mathlib.Core.Bool.{Bool, true, false}
use mathlib.Core.List.{List, [], ◌∷◌, ◌++◌, append-nil}
use Prim.Native.Nat.{ℕ, suc, ◌≤◌, ◌<◌}
use native.Mathlib.Omega.{arith}
use lib.ListN.{length, get_or, take, drop, length-append, drop_of_length-le}
use lib.Seq.{drop-cons}
use lib.IntN.{ℤ, pos}
use lib.Dec.{ltb}
use borrow.Author.Tests.{ltb-true, ltb-false, lt-ltb, le-ltb}
use Rattle.hall.specs.Hall.{Hall}
use Rattle.hall.specs.Ranges.{HallInRange, words, SheetOf}
use Rattle.hall.specs.Reading.{Fault, too_short, bad_device_count, bad_cost, bad_entry, extra_words, small_room, too_long, bad_rule_count, bad_width, Read, bad, got, then, hall, ended_by, ended, room_by, has_room, decode_by, decode}
use Rattle.hall.specs.Due.{Due, device_count, device_cost, rule_count, rule_width, rule_entry, nothing_more, due_after, due, fault_for, FirstWrong, WordsAfter, Reason}
use Rattle.hall.proofs.Reading.{hall_takes}
use Rattle.hall.proofs.Sheets.{hall_gives, accepted}
use Rattle.hall.proofs.Due.{RightUpTo, Stopped, Follows, hall_tracks, stopped_only, whole_not_stopped}

-- ── what stopped the hall's reader ──
stopped_reason : (ws : List ℤ) (room : ℕ) (f : Fault) (i : ℕ) → Stopped ws f i → Reason f i ws room
stopped_reason ws room f i (inr (e, s)) = subst (λ (f : Fault). Reason f i ws room) (sym e) s
stopped_reason ws room f i (inl (w, n)) = subst (λ (f : Fault). Reason f i ws room) w.kind (go (due (take i ws)) refl)
  where
    wrong : (d : Due) → due (take i ws) ≡ d → FirstWrong (fault_for d) i ws
    wrong d e = record { short = w.short; inside = w.inside; before = w.before; wrong = w.wrong; kind = ap fault_for e }

    go : (d : Due) → due (take i ws) ≡ d → Reason (fault_for d) i ws room
    go device_count e = wrong device_count e
    go (device_cost k left) e = wrong (device_cost k left) e
    go (rule_count k) e = wrong (rule_count k) e
    go (rule_width k rule left) e = wrong (rule_width k rule left) e
    go (rule_entry k rule rules left) e = wrong (rule_entry k rule rules left) e
    go nothing_more e = absurd (n e)

-- a first wrong word of a kind other than 15
reason_stopped : (ws : List ℤ) (f : Fault) (i : ℕ) → FirstWrong f i ws → f ≢ extra_words → Stopped ws f i
reason_stopped ws f i w n = inl (w, λ e. n (sym w.kind ∙ ap fault_for e))

-- ── the verdict on a sheet ──
abbrev pub Verdict : List ℤ → ℕ → Read Hall → Type 0
Verdict ws room (bad f i) = Reason f i ws room
Verdict ws room (got h j) = SheetOf h ws room × (j ≡ length ws)

module _ (ws : List ℤ) (room : ℕ) where
  reached : length ws ≤ 16384 → RightUpTo ws 0 device_count
  unfolding due_after
  reached s = record { short = s; inside = omega arith; right = λ j l. absurd (omega arith); state = refl }

  -- a whole hall, and then at least one word
  words_after : (h : Hall) (j : ℕ) → length ws ≤ 16384 → hall ws 0 ≡ got h j → j < length ws → WordsAfter j ws
  words_after h j s e l =
      let t = hall_takes ws 0 h j e in
      let n = t.next in
      record { short = s; hall = h; ranges = t.good; extra = get_or ws j (pos 0); rest = drop (suc j) ws; sheet = t.taken ∙ ap (λ (w : List ℤ). words h ++ w) (drop-cons ws j (pos 0) l); place = omega arith }

  -- a whole hall, and no word after it
  whole_sheet : (h : Hall) (j : ℕ) → hall ws 0 ≡ got h j → length ws ≤ j → ws ≡ words h
  whole_sheet h j e l = (hall_takes ws 0 h j e).taken ∙ ap (λ (w : List ℤ). words h ++ w) (drop_of_length-le ws l) ∙ append-nil (words h)

  -- the checks behind the hall's reader
  room_verdict : (h : Hall) (j : ℕ) → length ws ≤ 16384 → hall ws 0 ≡ got h j → j ≤ length ws → length ws ≤ j → Verdict ws room (has_room room h ws j)
  room_verdict h j s e l m = go (ltb room (length h.costs)) refl
    where
      go : (t : Bool) → ltb room (length h.costs) ≡ t → Verdict ws room (room_by t h ws j)
      go true u = record { short = s; hall = h; ranges = (hall_takes ws 0 h j e).good; sheet = whole_sheet h j e m; small = ltb-true room (length h.costs) u; place = refl }
      go false u = (record { sheet = whole_sheet h j e m; ranges = (hall_takes ws 0 h j e).good; short = s; fits = ltb-false room (length h.costs) u }, omega arith)

  end_verdict : (h : Hall) (j : ℕ) → length ws ≤ 16384 → hall ws 0 ≡ got h j → j ≤ length ws → Verdict ws room (then (ended h ws j) (has_room room) ws)
  end_verdict h j s e l = go (ltb j (length ws)) refl
    where
      go : (t : Bool) → ltb j (length ws) ≡ t → Verdict ws room (then (ended_by t h ws j) (has_room room) ws)
      go true u = words_after h j s e (ltb-true j (length ws) u)
      go false u = room_verdict h j s e l (ltb-false j (length ws) u)

  pub verdict : Verdict ws room (decode room ws)
  unfolding decode decode_by
  verdict = go (ltb 16384 (length ws)) refl
    where
      on : (x : Read Hall) → hall ws 0 ≡ x → length ws ≤ 16384 → Follows ws (λ (h : Hall). nothing_more) x → Verdict ws room (then (then x ended ws) (has_room room) ws)
      on (bad f i) e s h = stopped_reason ws room f i h
      on (got h j) e s r = end_verdict h j s e r.inside

      go : (t : Bool) → ltb 16384 (length ws) ≡ t → Verdict ws room (decode_by t room ws)
      go true u = record { long = ltb-true 16384 (length ws) u; place = refl }
      go false u = let s = ltb-false 16384 (length ws) u in on (hall ws 0) refl s (hall_tracks ws 0 (reached s))

  -- what is decoded is the hall whose sheet it is
  pub decoded : (h : Hall) (j : ℕ) → decode room ws ≡ got h j → SheetOf h ws room
  decoded h j e = (subst (Verdict ws room) e verdict).0

  -- ── only that verdict ──
  refuse : (f : Fault) (i : ℕ) → length ws ≤ 16384 → Stopped ws f i → decode room ws ≡ bad f i
  unfolding decode decode_by
  refuse f i s h = rw (le-ltb 16384 (length ws) s) (go (hall ws 0) (hall_tracks ws 0 (reached s)))
    where
      go : (x : Read Hall) → Follows ws (λ (h : Hall). nothing_more) x → then (then x ended ws) (has_room room) ws ≡ bad f i
      go (bad g j) k = let q = stopped_only ws g f j i k h in rw (q.0, q.1)
      go (got g j) r = absurd (whole_not_stopped ws f i j r h)

  -- the reader gives the hall with which the sheet begins
  hall_front : (h : Hall) (rest : List ℤ) → HallInRange h → ws ≡ words h ++ rest → hall ws 0 ≡ got h (length (words h))
  hall_front h rest g e = hall_gives h g ws 0 rest e ∙ ap (λ (j : ℕ). got h j) (omega arith)

  pub verdict_only : (x : Read Hall) → Verdict ws room x → decode room ws ≡ x
  unfolding decode decode_by
  verdict_only (got h j) v = accepted room ws h v.0 ∙ rw v.1
  verdict_only (bad too_short i) v = refuse too_short i v.short (inr (refl, v))
  verdict_only (bad bad_device_count i) v = refuse bad_device_count i v.short (reason_stopped ws bad_device_count i v (λ e. let z : ◌≡◌ {A = ℕ} 0 1 = cc in omega arith))
  verdict_only (bad bad_cost i) v = refuse bad_cost i v.short (reason_stopped ws bad_cost i v (λ e. let z : ◌≡◌ {A = ℕ} 0 1 = cc in omega arith))
  verdict_only (bad bad_entry i) v = refuse bad_entry i v.short (reason_stopped ws bad_entry i v (λ e. let z : ◌≡◌ {A = ℕ} 0 1 = cc in omega arith))
  verdict_only (bad extra_words i) v =
      let n = length (words v.hall) in
      let l : n < length ws = rw v.sheet (rw length-append (omega arith)) in
      rw (le-ltb 16384 (length ws) v.short, hall_front v.hall (v.extra ∷ v.rest) v.ranges v.sheet, lt-ltb n (length ws) l, v.place)
  verdict_only (bad small_room i) v =
      let n = length (words v.hall) in
      let l : length ws ≤ n = rw v.sheet (omega arith) in
      rw (le-ltb 16384 (length ws) v.short, hall_front v.hall [] v.ranges (v.sheet ∙ sym (append-nil (words v.hall))), le-ltb n (length ws) l, lt-ltb room (length v.hall.costs) v.small, v.place)
  verdict_only (bad too_long i) v = rw (lt-ltb 16384 (length ws) v.long, v.place)
  verdict_only (bad bad_rule_count i) v = refuse bad_rule_count i v.short (reason_stopped ws bad_rule_count i v (λ e. let z : ◌≡◌ {A = ℕ} 0 1 = cc in omega arith))
  verdict_only (bad (bad_width rule) i) v = refuse (bad_width rule) i v.short (reason_stopped ws (bad_width rule) i v (λ e. let z : ◌≡◌ {A = ℕ} 0 1 = cc in omega arith))
