-- Codes read back: what a code says, and the entries and rules that lie in the arrays, one by one.
--
-- In order: a code's device and mark (`device_of`, `mark_of`), no two codes have the same entry (`same_code`), the code of a code's
-- entry (`code_back`); where a rule lies (`starts_rise`, `ends_within`, `named_at`); one entry and one rule taken off the front
-- (`entries_one`, `rules_one`); a property of each entry of a run, and an entry of it, by its place (`each_entry`, `entry_in`), and
-- how many they are (`entries_length`). Assumes nothing.
use mathlib.Core.Path.{◌≡◌, refl, sym, ◌∙◌, ap}
use mathlib.Core.List.{List, ◌∷◌}
use Prim.Native.Nat.{ℕ, zero, suc, ◌+◌, ◌-◌, ◌/◌, ◌%◌, ◌≤◌, ◌<◌}
use native.Mathlib.Numerals.{sub-one}
use native.Mathlib.Omega.{arith}
use lib.ListN.{length, get_or}
use Rattle.lists.specs.Lists.{Each, In, first, later}
use Rattle.lists.proofs.Cases.{Tri, below, level, above, tri}
use Rattle.hall.specs.Hall.{Entry, device, mark}
use Rattle.sheet.specs.Coded.{entry_from, entry_of, entries_of, rule_of, rules_of, Laid, entry_code}

pub device_of : (code : ℕ) → device (entry_of code) ≡ code / 2
unfolding entry_of
device_of code = go (code % 2)
  where
    go : (odd : ℕ) → device (entry_from odd (code / 2)) ≡ code / 2
    go zero = refl
    go (suc odd) = refl

pub mark_of : (code : ℕ) → mark (entry_of code) ≡ 1 + code % 2
unfolding entry_of
mark_of code = go (code % 2) (omega arith)
  where
    go : (odd : ℕ) → odd < 2 → mark (entry_from odd (code / 2)) ≡ 1 + odd
    go zero h = refl
    go (suc zero) h = refl
    go (suc (suc odd)) h = absurd (omega arith)

pub same_code : (c d : ℕ) → entry_of c ≡ entry_of d → c ≡ d
same_code c d e =
    let v : c / 2 ≡ d / 2 = sym (device_of c) ∙ ap device e ∙ device_of d in
    let m : 1 + c % 2 ≡ 1 + d % 2 = sym (mark_of c) ∙ ap mark e ∙ mark_of d in
    omega arith

pub code_back : (code : ℕ) → entry_code (entry_of code) ≡ code
unfolding entry_of entry_code
code_back code = go (code % 2) (code / 2) (omega arith) (omega arith)
  where
    go : (odd v : ℕ) → code ≡ v + v + odd → odd < 2 → entry_code (entry_from odd v) ≡ code
    go zero v e l = omega arith
    go (suc zero) v e l = omega arith
    go (suc (suc odd)) v e l = absurd (omega arith)

-- ── where a rule lies ──
module _ {n : ℕ} {codes starts : List ℕ} {m : ℕ} (laid : Laid n codes starts m) where
  pub starts_rise : (k r : ℕ) → r + k ≡ m → get_or starts r 0 ≤ get_or starts m 0
  starts_rise zero r e = let z : r ≡ m = omega arith in rw z (omega arith)
  starts_rise (suc k) r e = let a = laid.rise r (omega arith) in let b = starts_rise k (r + 1) (omega arith) in omega arith

  pub ends_within : (r : ℕ) → r < m → get_or starts (r + 1) 0 ≤ get_or starts m 0
  ends_within r l = starts_rise (m - (r + 1)) (r + 1) (omega arith)

  pub named_at : (r i : ℕ) → r < m → i < get_or starts (r + 1) 0 → get_or codes i 0 / 2 < n
  named_at r i l h = let w = ends_within r l in laid.named i (omega arith)

-- ── off the front ──
pub entries_one : (codes : List ℕ) (at left : ℕ) → (left ≡ 0 → ⊥) → entries_of codes at left ≡ entry_of (get_or codes at 0) ∷ entries_of codes (at + 1) (left - 1)
unfolding entries_of
entries_one codes at zero more = absurd (more refl)
entries_one codes at (suc left) more = rw sub-one refl

pub rules_one : (codes starts : List ℕ) (r left : ℕ) → (left ≡ 0 → ⊥) → rules_of codes starts r left ≡ rule_of codes starts r ∷ rules_of codes starts (r + 1) (left - 1)
unfolding rules_of
rules_one codes starts r zero more = absurd (more refl)
rules_one codes starts r (suc left) more = rw sub-one refl

-- a property of each entry of a rule, place by place; and an entry of the rule, by its place
pub each_entry : (P : Entry → Type 0) (codes : List ℕ) (at left : ℕ) → ((i : ℕ) → at ≤ i → i < at + left → P (entry_of (get_or codes i 0))) → Each P (entries_of codes at left)
unfolding entries_of
each_entry P codes at zero f = tt
each_entry P codes at (suc left) f = (f at (omega arith) (omega arith), each_entry P codes (at + 1) left (λ i from to. f i (omega arith) (omega arith)))

pub entry_in : (codes : List ℕ) (at left i : ℕ) → at ≤ i → i < at + left → In (entry_of (get_or codes i 0)) (entries_of codes at left)
unfolding entries_of
entry_in codes at zero i from to = absurd (omega arith)
entry_in codes at (suc left) i from to = go (tri at i) (λ l. entry_in codes (at + 1) left i (omega arith) (omega arith))
  where
    go : Tri at i → (at < i → In (entry_of (get_or codes i 0)) (entries_of codes (at + 1) left)) → In (entry_of (get_or codes i 0)) (entry_of (get_or codes at 0) ∷ entries_of codes (at + 1) left)
    go (below l) ih = later (ih l)
    go (level e) ih = rw e first
    go (above l) ih = absurd (omega arith)

pub entries_length : (codes : List ℕ) (at left : ℕ) → length (entries_of codes at left) ≡ left
unfolding entries_of
entries_length codes at zero = refl
entries_length codes at (suc left) = ap suc (entries_length codes (at + 1) left)
