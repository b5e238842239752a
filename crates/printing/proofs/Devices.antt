-- The held devices, one by one: one device was put, by its mark (`puts_1`, `puts_2`, `puts_none`); the devices of a plan, none of them
-- (`devices_none`), and one more behind those in front of it (`devices_more`). Assumes nothing.
use mathlib.Core.Path.{◌≡◌, refl, ◌∙◌, ap}
use mathlib.Core.List.{List, [], ◌∷◌, ◌++◌, append-nil}
use Prim.Native.Nat.{ℕ, zero, suc, ◌+◌, ◌<◌}
use native.Mathlib.Numerals.{add-one}
use native.Mathlib.Omega.{arith}
use lib.ListN.{length, get_or, take}
use lib.Seq.{take-suc, length-take-le}
use Rattle.lists.specs.Bytes.{bytes}
use Rattle.hall.specs.Hall.{Entry}
use Rattle.hall.specs.Order.{held_by, held_from, held_entries}
use Rattle.hall.specs.Ranges.{words_of, entry_words}
use Rattle.typed.specs.Printing.{digits_of, printed_word}
use Rattle.printing.specs.Lines.{spaced, printed_entries}
use Rattle.printing.specs.declared.Page.{Page}
use Rattle.printing.specs.Contract.{Puts}
use Rattle.printing.proofs.Putting.{puts_nothing, spaced_append}
use Rattle.hall.proofs.Words.{words_append}

-- ── one device, by its mark: at position 1, at position 0, not held ──
module _ (x v : ℕ) (before after : Page) where
  pub puts_1 : x ≡ 1 → Puts (bytes " " ++ digits_of (v + 1)) before after → Puts (printed_entries (held_by x v [])) before after
  unfolding spaced words_of
  puts_1 e p = rw (e, append-nil (digits_of (suc v))) (rw add-one at p)

  pub puts_2 : x ≡ 2 → Puts (bytes " -" ++ digits_of (v + 1)) before after → Puts (printed_entries (held_by x v [])) before after
  unfolding spaced words_of
  puts_2 e p = rw (e, append-nil (digits_of (suc v))) (rw add-one at p)

pub puts_none : (x v : ℕ) (page : Page) → (x ≡ 1 → ⊥) → (x ≡ 2 → ⊥) → Puts (printed_entries (held_by x v [])) page page
unfolding spaced words_of
puts_none zero v page a b = puts_nothing refl
puts_none (suc zero) v page a b = absurd (a refl)
puts_none (suc (suc zero)) v page a b = absurd (b refl)
puts_none (suc (suc (suc x))) v page a b = puts_nothing refl

-- ── one list of entries behind another ──
held_first : (x v : ℕ) (es fs : List Entry) → held_by x v (es ++ fs) ≡ held_by x v es ++ fs
held_first zero v es fs = refl
held_first (suc zero) v es fs = refl
held_first (suc (suc zero)) v es fs = refl
held_first (suc (suc (suc x))) v es fs = refl

held_append : (v : ℕ) (p q : List ℕ) → held_from v (p ++ q) ≡ held_from v p ++ held_from (v + length p) q
unfolding held_from
held_append v [] q = ap (λ (u : ℕ). held_from u q) (omega arith)
held_append v (x ∷ p) q =
    let s : v + suc (length p) ≡ suc v + length p = omega arith in
    rw s (ap (held_by x v) (held_append (suc v) p q) ∙ held_first x v (held_from (suc v) p) (held_from (suc v + length p) q))

pub printed_append : (es fs : List Entry) → printed_entries (es ++ fs) ≡ printed_entries es ++ printed_entries fs
printed_append es fs = ap (spaced printed_word) (words_append entry_words es fs) ∙ spaced_append printed_word (words_of entry_words es) (words_of entry_words fs)

pub devices_none : (plan : List ℕ) → printed_entries (held_entries (take 0 plan)) ≡ []
unfolding held_from spaced words_of
devices_none plan = refl

pub devices_more : (plan : List ℕ) (v : ℕ) → v < length plan
    → printed_entries (held_entries (take (v + 1) plan)) ≡ printed_entries (held_entries (take v plan)) ++ printed_entries (held_by (get_or plan v 0) v [])
unfolding held_from
devices_more plan v h =
    let front = take v plan in
    let place : 0 + length front ≡ v = omega (arith, length-take-le v plan) in
    let s = held_append 0 front (get_or plan v 0 ∷ []) in
    rw (add-one, take-suc plan v 0 h)
    (ap printed_entries (s ∙ ap (λ (u : ℕ). held_entries front ++ held_by (get_or plan v 0) u []) place)
    ∙ printed_append (held_entries front) (held_by (get_or plan v 0) v []))
