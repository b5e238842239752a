-- Whether a rule names both positions of a device, by stamps.
--
-- In order: a list in which one element was stored (`stored`); entries that are opposite, and their codes (`opposite_code`); the
-- loop over the entries of a rule (`Stamped`: the codes with this rule's stamp are those seen so far, and no two of them are
-- opposite). A code whose opposite has the stamp ends the loop: both entries stand in the rule (`opposite_seen`). Otherwise it is
-- stamped too (`seen_one`); where all codes are stamped, no two entries of the rule are opposite (`all_seen`). Assumes nothing.
use mathlib.Core.Path.{◌≡◌, refl, sym, ◌∙◌, ap}
use mathlib.Core.Bool.{true, false}
use mathlib.Core.List.{List}
use Prim.Native.Nat.{ℕ, zero, suc, ◌+◌, ◌-◌, ◌*◌, ◌/◌, ◌%◌, ◌≤◌, ◌<◌}
use native.Mathlib.Omega.{arith}
use lib.ListN.{length, length-set, get_or, set, take, drop}
use lib.Seq.{get_or-set_same, get_or-set_other}
use Rattle.std.proofs.lemmas.List.{get_or-take, get_or-drop, length-take}
use Rattle.lists.specs.Lists.{Each, In}
use Rattle.lists.proofs.Cases.{Tri, below, level, above, tri, fails}
use Rattle.hall.specs.Hall.{Entry, at1, at0, Rule, opposite, names_both}
use Rattle.hall.proofs.Rules.{each_in, both_named, named_both}
use Rattle.sheet.specs.Coded.{entry_from, entry_of, entries_of}
use Rattle.needed.specs.Leaving.{Opposes, Stampable, Stamps}
use Rattle.sheet.proofs.Codes.{same_code, each_entry, entry_in}

-- ── a list in which one element was stored ──
-- at any place the list has the new element, or what it had
data Stored (s : List ℕ) (i v c : ℕ) : Type 0 where
  new : c ≡ i → get_or (set s i v) c 0 ≡ v → Stored s i v c
  old : (c ≡ i → ⊥) → get_or (set s i v) c 0 ≡ get_or s c 0 → Stored s i v c

stored : (s : List ℕ) (i v c : ℕ) → i < length s → Stored s i v c
stored s i v c l = go (tri c i)
  where
    other : (c ≡ i → ⊥) → Stored s i v c
    other n = old n (get_or-set_other s i c v 0 n)

    go : Tri c i → Stored s i v c
    go (below h) = other (λ (e : c ≡ i). omega arith)
    go (level e) = new e (rw e (get_or-set_same s i v 0 l))
    go (above h) = other (λ (e : c ≡ i). omega arith)

-- ── opposite entries ──
pub opposite_code : (code : ℕ) → entry_of (code + 1 - 2 * (code % 2)) ≡ opposite (entry_of code)
unfolding entry_of
opposite_code code = go (code % 2) (code + 1 - 2 * (code % 2)) refl refl
  where
    go : (odd r : ℕ) → code % 2 ≡ odd → r ≡ code + 1 - 2 * odd → entry_from (r % 2) (r / 2) ≡ opposite (entry_from odd (code / 2))
    go zero r e s =
        let m : r % 2 ≡ 1 = omega arith in
        let v : r / 2 ≡ code / 2 = omega arith in
        rw (m, v)
    go (suc zero) r e s =
        let m : r % 2 ≡ 0 = omega arith in
        let v : r / 2 ≡ code / 2 = omega arith in
        rw (m, v)
    go (suc (suc odd)) r e s = absurd (omega arith)

opposite_back : (d e : Entry) → d ≡ opposite e → e ≡ opposite d
opposite_back d (at1 v) h = rw h
opposite_back d (at0 v) h = rw h

never_opposite : (e : Entry) → e ≡ opposite e → ⊥
never_opposite (at1 v) h = let z : ◌≡◌ {A = ℕ} 0 1 = cc in omega arith
never_opposite (at0 v) h = let z : ◌≡◌ {A = ℕ} 0 1 = cc in omega arith

-- ── the loop ──
pub record Stamped (codes : List ℕ) (from end rule : ℕ) (stamps₀ : List ℕ) (i : ℕ) (stamps : List ℕ) : Type 0 where
  pub begun : from ≤ i
  pub inside : i ≤ end
  pub as_long : length stamps ≡ length stamps₀
  pub earlier : (c : ℕ) → get_or stamps c 0 ≤ rule
  pub seen : (j : ℕ) → from ≤ j → j < i → get_or stamps (get_or codes j 0) 0 ≡ rule
  pub stands : (c : ℕ) → get_or stamps c 0 ≡ rule → In (entry_of c) (entries_of codes from (end - from))
  pub apart : (c d : ℕ) → get_or stamps c 0 ≡ rule → get_or stamps d 0 ≡ rule → entry_of d ≡ opposite (entry_of c) → ⊥

pub none_seen : {codes : List ℕ} {from end rule : ℕ} {stamps : List ℕ} → Stampable codes from end rule stamps → Stamped codes from end rule stamps from stamps
none_seen s = record {
  begun = omega arith;
  inside = s.upto;
  as_long = refl;
  earlier = λ c. let l = s.earlier c in omega arith;
  seen = λ j from to. absurd (omega arith);
  stands = λ c e. let l = s.earlier c in absurd (omega arith);
  apart = λ c d e f o. let l = s.earlier c in omega arith;
}

module _ {codes : List ℕ} {from end rule : ℕ} {stamps₀ : List ℕ} {i : ℕ} {stamps : List ℕ} (x : Stamped codes from end rule stamps₀ i stamps) where
  pub all_seen : end ≤ i → Stamps codes from end rule false stamps
  all_seen l = record { says = sym (fails two); earlier = x.earlier }
    where
      whole : Rule
      whole = entries_of codes from (end - from)

      HasStamp : Entry → Type 0
      HasStamp e = (c : ℕ) × (entry_of c ≡ e) × (get_or stamps c 0 ≡ rule)

      each_stamped : Each HasStamp whole
      each_stamped = each_entry HasStamp codes from (end - from) (λ j a b. (get_or codes j 0, refl, x.seen j a (let k = x.begun in omega arith)))

      two : names_both whole ≡ true → ⊥
      two h =
          let n = named_both whole h in
          let c = each_in HasStamp n.1 each_stamped in
          let d = each_in HasStamp n.2 each_stamped in
          x.apart c.0 d.0 c.2 d.2 (d.1 ∙ ap opposite (sym c.1))

  module _ (more : i < end) {r : ℕ} (o : Opposes (get_or codes i 0) r) where
    here : In (entry_of (get_or codes i 0)) (entries_of codes from (end - from))
    here = let b = x.begun in entry_in codes from (end - from) i b (omega arith)

    opposite_seen : get_or stamps r 0 ≡ rule → Stamps codes from end rule true stamps
    opposite_seen e = record { says = sym (both_named (entry_of (get_or codes i 0)) _ here (rw o.says at (x.stands r e))); earlier = x.earlier }

    seen_one : get_or codes i 0 < length stamps → (get_or stamps r 0 ≡ rule → ⊥) → Stamped codes from end rule stamps₀ (i + 1) (set stamps (get_or codes i 0) rule)
    seen_one fits other = let b = x.begun in record {
      begun = omega arith;
      inside = omega arith;
      as_long = length-set stamps code rule ∙ x.as_long;
      earlier = λ c. not_later c (at c);
      seen = λ j a b. seen_too j a (tri j i) b (at (get_or codes j 0));
      stands = λ c e. stands_too c e (at c);
      apart = λ c d e f. apart_too c d e f (at c) (at d);
    }
      where
        code : ℕ
        code = get_or codes i 0

        at : (c : ℕ) → Stored stamps code rule c
        at c = stored stamps code rule c fits

        not_later : (c : ℕ) → Stored stamps code rule c → get_or (set stamps code rule) c 0 ≤ rule
        not_later c (new e v) = omega arith
        not_later c (old e v) = let l = x.earlier c in omega arith

        seen_too : (j : ℕ) → from ≤ j → Tri j i → j < i + 1 → Stored stamps code rule (get_or codes j 0) → get_or (set stamps code rule) (get_or codes j 0) 0 ≡ rule
        seen_too j a t b (new e v) = v
        seen_too j a (below l) b (old e v) = v ∙ x.seen j a l
        seen_too j a (level l) b (old e v) = absurd (e (rw l refl))
        seen_too j a (above l) b (old e v) = absurd (omega arith)

        stands_too : (c : ℕ) → get_or (set stamps code rule) c 0 ≡ rule → Stored stamps code rule c → In (entry_of c) (entries_of codes from (end - from))
        stands_too c h (new e v) = rw e here
        stands_too c h (old e v) = x.stands c (sym v ∙ h)

        -- no code with the stamp is the opposite of this one
        alone : (c : ℕ) → get_or stamps c 0 ≡ rule → entry_of c ≡ opposite (entry_of code) → ⊥
        alone c h u = other (ap (λ (d : ℕ). get_or stamps d 0) (same_code r c (o.says ∙ sym u)) ∙ h)

        apart_too : (c d : ℕ) → get_or (set stamps code rule) c 0 ≡ rule → get_or (set stamps code rule) d 0 ≡ rule → Stored stamps code rule c → Stored stamps code rule d → entry_of d ≡ opposite (entry_of c) → ⊥
        apart_too c d h k (new e v) (new f w) u = never_opposite (entry_of c) (ap entry_of (e ∙ sym f) ∙ u)
        apart_too c d h k (new e v) (old f w) u = alone d (sym w ∙ k) (rw e at u)
        apart_too c d h k (old e v) (new f w) u = alone c (sym v ∙ h) (opposite_back (entry_of code) (entry_of c) (rw f at u))
        apart_too c d h k (old e v) (old f w) u = x.apart c d (sym v ∙ h) (sym w ∙ k) u

-- the code at hand is the one at this place of the rule's part
module _ {codes : List ℕ} {from end rule : ℕ} {stamps₀ : List ℕ} {k : ℕ} {stamps : List ℕ} (s : Stampable codes from end rule stamps₀) (x : Stamped codes from end rule stamps₀ (from + k) stamps)
    (l : k < length (take (end - from) (drop from codes))) where
  part_long : k < end - from
  part_long = omega (arith, length-take (end - from) (drop from codes))

  part_at : get_or (take (end - from) (drop from codes)) k 0 ≡ get_or codes (from + k) 0
  part_at = get_or-take (end - from) (drop from codes) k 0 part_long ∙ get_or-drop from codes k 0

  module _ {r : ℕ} (o : Opposes (get_or (take (end - from) (drop from codes)) k 0) r) where
    pub part_opposite : get_or stamps r 0 ≡ rule → Stamps codes from end rule true stamps
    part_opposite e = let p = part_long in opposite_seen x (omega arith) (rw part_at at o) e

    pub part_seen : (get_or stamps r 0 ≡ rule → ⊥) → Stamped codes from end rule stamps₀ (from + (k + 1)) (set stamps (get_or (take (end - from) (drop from codes)) k 0) rule)
    part_seen other =
        let p = part_long in
        let named = s.named (from + k) (omega arith) (omega arith) in
        let room = s.room in
        let long = x.as_long in
        let next : from + (k + 1) ≡ from + k + 1 = omega arith in
        rw (part_at, next) (seen_one x (omega arith) (rw part_at at o) (omega arith) other)
