-- The codes of a rule are a part of the codes of all entries.
--
-- In order: codes from a place on stand for the entries from there on (`codes_entries`), and have what each of them has (`codes_each`);
-- so it is for a rule of a hall that lies in the arrays (`rule_is`). Assumes nothing.
use mathlib.Core.Path.{◌≡◌, refl, sym, ◌∙◌, ap, subst}
use mathlib.Core.List.{List, [], ◌∷◌, map}
use Prim.Native.Nat.{ℕ, zero, suc, ◌+◌, ◌-◌, ◌/◌, ◌≤◌, ◌<◌}
use native.Mathlib.Omega.{arith}
use lib.ListN.{length, take, drop, get_or}
use Rattle.std.proofs.lemmas.List.{drop_more}
use borrow.Rule.Slice.PartMut.{mid_len}
use Rattle.lists.specs.Lists.{Each}
use Rattle.sheet.specs.Coded.{entry_of, entries_of}
use Rattle.sheet.proofs.Codes.{named_at}
use Rattle.needed.specs.declared.coded.Coded.{Coded}
use Rattle.needed.specs.Rules.{IsRule}

module _ (codes : List ℕ) where
  codes_entries : (left from : ℕ) → from + left ≤ length codes → map entry_of (take left (drop from codes)) ≡ entries_of codes from left
  unfolding entries_of
  codes_entries zero from h = refl
  codes_entries (suc left) from h =
      ap (λ (l : List ℕ). map entry_of (take (suc left) l)) (drop_more codes from 0 (omega arith))
      ∙ ap (λ l. entry_of (get_or codes from 0) ∷ l) (codes_entries left (from + 1) (omega arith))

  codes_each : (P : ℕ → Type 0) (left from : ℕ) → from + left ≤ length codes → ((i : ℕ) → from ≤ i → i < from + left → P (get_or codes i 0))
      → Each P (take left (drop from codes))
  codes_each P zero from h each = tt
  codes_each P (suc left) from h each =
      subst (λ (l : List ℕ). Each P (take (suc left) l)) (sym (drop_more codes from 0 (omega arith)))
      (each from (omega arith) (omega arith), codes_each P left (from + 1) (omega arith) (λ i a b. each i (omega arith) (omega arith)))

module _ (h : Coded) (r : ℕ) (below : r < h.rules) where
  pub rule_is : IsRule h r (take (get_or h.starts.now (r + 1) 0 - get_or h.starts.now r 0) (drop (get_or h.starts.now r 0) h.codes.now))
  rule_is =
      let laid = h.loaded.laid in
      let rise = laid.rise r below in
      let narrow = laid.narrow r below in
      let within = laid.within r below in
      record {
        says = λ _. codes_entries h.codes.now _ _ (omega arith);
        named = codes_each h.codes.now _ _ _ (omega arith) (λ i a b. named_at laid r i below (omega arith));
        narrow = omega (arith, mid_len (get_or h.starts.now r 0) (get_or h.starts.now (r + 1) 0) h.codes.now within);
        none = λ k. absurd (omega arith);
      }
