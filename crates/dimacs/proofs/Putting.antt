-- What is put into the room: the counts, and the words of a clause that is open.
--
-- In order: the counts (`ones`, `counts_put`); the room with an open clause
-- (`open_as`), when its width is written (`width_written`) and when an entry is (`entry_written`). Assumes nothing.
use mathlib.Core.Path.{◌≡◌, refl, sym, ◌∙◌, ap}
use mathlib.Core.List.{List, [], ◌∷◌, ◌++◌, append_assoc, append-nil}
use Prim.Native.Nat.{ℕ, zero, suc, ◌+◌, ◌-◌, ◌≤◌, ◌<◌}
use native.Mathlib.Omega.{arith}
use lib.ListN.{length, get_or, drop, set, replicate, length-append}
use lib.Seq.{drop-cons}
use lib.IntN.{ℤ, pos}
use borrow.Rule.Slice.PartMut.{put_mid}
use Rattle.lists.specs.Lists.{in_front}
use Rattle.lists.proofs.InFront.{front_adds, front_changes}
use Rattle.hall.specs.Hall.{Entry, Rule}
use Rattle.hall.specs.Ranges.{words_of, number_words, entry_words, rule_words}
use Rattle.hall.proofs.Words.{words_append, words_one, entry_words_length}
use Rattle.dimacs.specs.Stage.{inside, device_words, sheet_so_far}
use Rattle.dimacs.proofs.SoFar.{ones_long}

-- ── the counts ──
ones : (n : ℕ) → words_of number_words (replicate n 1) ≡ replicate n (pos 1)
unfolding words_of
ones zero = refl
ones (suc n) = ap (λ (l : List ℤ). pos 1 ∷ l) (ones n)

-- the costs are put as the machine reads them back
pub counts_put : (n m : ℕ) (room : List ℤ) → n + 2 ≤ length room → {costs : List ℤ} → costs ≡ replicate n (pos 1)
    → set (put_mid 1 (n + 1 - 1) (set room 0 (pos n)) costs) (n + 1) (pos m) ≡ in_front (sheet_so_far (inside n m [] [])) room
unfolding sheet_so_far words_of
counts_put n m [] l e = absurd (omega arith)
counts_put n m (x ∷ room) l {costs} e =
    let long : length (device_words n) ≡ n + 1 = omega (arith, ones_long n) in
    let less : n + 1 - 1 ≡ n = omega arith in
    let same : length (words_of number_words (replicate n 1)) ≡ n = ones_long n in
    ap (λ (l : List ℤ). set (pos n ∷ (l ++ drop (n + 1 - 1) room)) (n + 1) (pos m)) (e ∙ sym (ones n))
    ∙ ap (λ (k : ℕ). set (pos n ∷ (words_of number_words (replicate n 1) ++ drop k room)) (n + 1) (pos m)) (less ∙ sym same)
    ∙ ap (λ (k : ℕ). set (in_front (device_words n) (x ∷ room)) k (pos m)) (sym long)
    ∙ front_adds (device_words n) (x ∷ room) (pos m) (pos 0) (omega (arith, long))

-- ── a clause that is open ──
one_more_lem : (entries : Rule) (e : Entry) → words_of entry_words entries ++ entry_words e ≡ words_of entry_words (entries ++ (e ∷ []))
one_more_lem entries e = ap (λ (l : List ℤ). words_of entry_words entries ++ l) (sym (words_one entry_words e)) ∙ sym (words_append entry_words entries (e ∷ []))

-- its entries, behind the place that is kept for its width
abbrev pub open_as : ℤ → Rule → List ℤ
open_as x [] = []
open_as x (e ∷ es) = x ∷ words_of entry_words (e ∷ es)

module _ (front before : List ℤ) (l : length front < length before) where
  kept_stands : in_front front before ≡ in_front (front ++ (get_or before (length front) (pos 0) ∷ [])) before
  kept_stands =
      let x = get_or before (length front) (pos 0) in
      let size : suc (length front) ≡ length (front ++ (x ∷ [])) = omega (arith, length-append front (x ∷ [])) in
      ap (λ (r : List ℤ). front ++ r) (drop-cons before (length front) (pos 0) l)
      ∙ ap (λ (k : ℕ). front ++ (x ∷ drop k before)) size
      ∙ sym (append_assoc front (x ∷ []) (drop (length (front ++ (x ∷ []))) before))

  held : (entries : Rule) → in_front (front ++ open_as (get_or before (length front) (pos 0)) entries) before
      ≡ in_front (front ++ (get_or before (length front) (pos 0) ∷ words_of entry_words entries)) before
  unfolding words_of
  held [] = ap (λ (f : List ℤ). in_front f before) (append-nil front) ∙ kept_stands
  held (e ∷ es) = refl

  -- the width is written: the clause is a rule
  pub width_written : (entries : Rule)
      → set (in_front (front ++ open_as (get_or before (length front) (pos 0)) entries) before) (length front) (pos (length entries))
      ≡ in_front (front ++ rule_words entries) before
  unfolding rule_words
  width_written entries =
      ap (λ (r : List ℤ). set r (length front) (pos (length entries))) (held entries)
      ∙ front_changes front (get_or before (length front) (pos 0)) (pos (length entries)) (words_of entry_words entries) before

  -- an entry is written behind those that stand there
  pub entry_written : (entries : Rule) (e : Entry) {z : ℤ} → entry_words e ≡ z ∷ [] → length front + length entries + 2 ≤ length before
      → set (in_front (front ++ open_as (get_or before (length front) (pos 0)) entries) before) (length front + length entries + 1) z
      ≡ in_front (front ++ open_as (get_or before (length front) (pos 0)) (entries ++ (e ∷ []))) before
  entry_written entries e {z} word fits =
      let x = get_or before (length front) (pos 0) in
      let ws = words_of entry_words entries in
      let long : length (front ++ (x ∷ ws)) ≡ length front + length entries + 1 = omega (arith, length-append front (x ∷ ws), entry_words_length entries) in
      ap (λ (r : List ℤ). set r (length front + length entries + 1) z) (held entries)
      ∙ ap (λ (k : ℕ). set (in_front (front ++ (x ∷ ws)) before) k z) (sym long)
      ∙ front_adds (front ++ (x ∷ ws)) before z (pos 0) (omega (arith, long))
      ∙ ap (λ (f : List ℤ). in_front f before)
      (append_assoc front (x ∷ ws) (z ∷ [])
      ∙ ap (λ (l : List ℤ). front ++ (x ∷ (ws ++ l))) (sym word)
      ∙ ap (λ (l : List ℤ). front ++ (x ∷ l)) (one_more_lem entries e))
      ∙ ap (λ (l : List ℤ). in_front (front ++ l) before) (some_open entries e)
    where
      some_open : (entries : Rule) (e : Entry)
          → get_or before (length front) (pos 0) ∷ words_of entry_words (entries ++ (e ∷ [])) ≡ open_as (get_or before (length front) (pos 0)) (entries ++ (e ∷ []))
      some_open [] e = refl
      some_open (y ∷ entries) e = refl
