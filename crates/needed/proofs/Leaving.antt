-- Leaving out the rules that name both positions of a device.
--
-- In order: a rule that is left out, and one that stays (`leaves`, `stays`); the starts behind the first (`ends_from`); the loop
-- over the rules (`Leaving`: storing what is left to store leaves what storing all rules that stay leaves; what was not reached
-- lies as it did), from the first rule (`none_done`) over one left out or one that stays (`left_one`, `stays_one`) to the last
-- (`all_done`). Assumes nothing.
use mathlib.Core.Path.{◌≡◌, refl, sym, ◌∙◌, ap}
use mathlib.Core.Bool.{Bool, true, false}
use mathlib.Core.List.{List, [], ◌∷◌}
use Prim.Native.Nat.{ℕ, zero, suc, ◌+◌, ◌-◌, ◌≤◌, ◌<◌}
use native.Mathlib.Omega.{arith}
use lib.ListN.{length, length-set, get_or, set, replicate}
use lib.Seq.{get_or-set_other, set-get_or, sets, length-sets}
use Rattle.lists.proofs.InFront.{sets_append}
use Rattle.hall.specs.Hall.{Rule, names_both, leave_out}
use Rattle.hall.specs.Bound.{entries}
use Rattle.sheet.specs.Coded.{entries_of, rule_of, rules_of, entry_codes, starts_from}
use Rattle.sheet.proofs.Standing.{codes_append, codes_length}
use Rattle.sheet.proofs.Codes.{named_at, rules_one, entries_length}
use Rattle.needed.specs.Leaving.{Stampable, Stamps, Moves, Leavable, LeavesOut}
use Rattle.needed.proofs.Moving.{sets_behind}

-- ── a rule that is left out, and one that stays ──
leaves : (r : Rule) (rs : List Rule) → names_both r ≡ true → leave_out (r ∷ rs) ≡ leave_out rs
unfolding leave_out
leaves r rs h = rw h refl

stays : (r : Rule) (rs : List Rule) → names_both r ≡ false → leave_out (r ∷ rs) ≡ r ∷ leave_out rs
unfolding leave_out
stays r rs h = rw h refl

-- ── the starts behind the first: where each rule ends ──
unfoldable pub ends_from : ℕ → List Rule → List ℕ
ends_from at [] = []
ends_from at (r ∷ rs) = (at + length r) ∷ ends_from (at + length r) rs

starts_ends : (at : ℕ) (rs : List Rule) → starts_from at rs ≡ at ∷ ends_from at rs
unfolding starts_from ends_from
starts_ends at [] = refl
starts_ends at (r ∷ rs) = ap (λ (l : List ℕ). at ∷ l) (starts_ends (at + length r) rs)

-- entries that lie alike are the same
entries_same : (codes codes' : List ℕ) (at left : ℕ) → ((i : ℕ) → at ≤ i → get_or codes' i 0 ≡ get_or codes i 0) → entries_of codes' at left ≡ entries_of codes at left
unfolding entries_of
entries_same codes codes' at zero f = refl
entries_same codes codes' at (suc left) f = rw (f at (omega arith), entries_same codes codes' (at + 1) left (λ i l. f i (omega arith))) refl

-- ── the loop ──
pub record Leaving (codes₀ starts₀ : List ℕ) (m : ℕ) (codes starts stamps : List ℕ) (end to left r : ℕ) : Type 0 where
  pub asked : Leavable codes₀ starts₀ m
  pub upto : r ≤ m
  pub few : left ≤ r
  pub ends : end ≡ get_or starts₀ r 0
  pub down : to ≤ end
  pub codes_rest : (i : ℕ) → end ≤ i → get_or codes i 0 ≡ get_or codes₀ i 0
  pub starts_rest : (k : ℕ) → r < k → get_or starts k 0 ≡ get_or starts₀ k 0
  pub codes_long : length codes ≡ length codes₀
  pub starts_long : length starts ≡ length starts₀
  pub stamps_long : length stamps ≡ 400
  pub earlier : (c : ℕ) → get_or stamps c 0 ≤ r
  pub number : left + length (leave_out (rules_of codes₀ starts₀ r (m - r))) ≡ length (leave_out (rules_of codes₀ starts₀ 0 m))
  pub codes_left : sets codes to (entry_codes (entries (leave_out (rules_of codes₀ starts₀ r (m - r))))) ≡ sets codes₀ 0 (entry_codes (entries (leave_out (rules_of codes₀ starts₀ 0 m))))
  pub starts_left : sets starts (left + 1) (ends_from to (leave_out (rules_of codes₀ starts₀ r (m - r)))) ≡ sets starts₀ 1 (ends_from 0 (leave_out (rules_of codes₀ starts₀ 0 m)))

zeros : (n c : ℕ) → ◌≡◌ {A = ℕ} (get_or (replicate n 0) c 0) 0
zeros zero c = refl
zeros (suc n) zero = refl
zeros (suc n) (suc c) = zeros n c

pub none_done : {codes starts : List ℕ} {m : ℕ} {end : ℕ} {stamps : List ℕ} → Leavable codes starts m → end ≡ get_or starts 0 0 → stamps ≡ replicate 400 0 → length stamps ≡ 400 → Leaving codes starts m codes starts stamps end end 0 0
none_done {codes} {starts} {m} {end} s e blank long =
    let z : m - 0 ≡ m = omega arith in
    let o : end ≡ 0 = e ∙ s.first in
    record {
      asked = s;
      upto = omega arith;
      few = omega arith;
      ends = e;
      down = omega arith;
      codes_rest = λ i l. refl;
      starts_rest = λ k l. refl;
      codes_long = refl;
      starts_long = refl;
      stamps_long = long;
      earlier = λ c. rw blank (let z = zeros 400 c in omega arith);
      number = rw z (omega arith);
      codes_left = rw (o, z) refl;
      starts_left = rw (o, z) refl;
    }

module _ {codes₀ starts₀ : List ℕ} {m : ℕ} {codes starts stamps : List ℕ} {end to left r : ℕ} (x : Leaving codes₀ starts₀ m codes starts stamps end to left r) where
  pub all_done : m ≤ r → LeavesOut codes₀ starts₀ m left codes starts
  unfolding rules_of leave_out entries entry_codes ends_from
  all_done l =
      let u = x.upto in
      let z : m - r ≡ 0 = omega arith in
      let n : left + length (leave_out (rules_of codes₀ starts₀ r 0)) ≡ length (leave_out (rules_of codes₀ starts₀ 0 m)) = rw z at x.number in
      let first : set starts₀ 0 0 ≡ starts₀ = ap (set starts₀ 0) (sym x.asked.first) ∙ set-get_or starts₀ 0 0 in
      let c : sets codes to (entry_codes (entries (leave_out (rules_of codes₀ starts₀ r 0)))) ≡ sets codes₀ 0 (entry_codes (entries (leave_out (rules_of codes₀ starts₀ 0 m)))) = rw z at x.codes_left in
      let b : sets starts (left + 1) (ends_from to (leave_out (rules_of codes₀ starts₀ r 0))) ≡ sets starts₀ 1 (ends_from 0 (leave_out (rules_of codes₀ starts₀ 0 m))) = rw z at x.starts_left in
      record {
        number = omega arith;
        codes_left = c;
        starts_left = b ∙ ap (λ (l : List ℕ). sets l 1 (ends_from 0 (leave_out (rules_of codes₀ starts₀ 0 m)))) (sym first) ∙ sym (ap (sets starts₀ 0) (starts_ends 0 (leave_out (rules_of codes₀ starts₀ 0 m))));
      }

  module _ (more : r < m) {next : ℕ} (e : next ≡ get_or starts (r + 1) 0) where
    -- rule r is at hand, from `end` to here
    next_start : next ≡ get_or starts₀ (r + 1) 0
    next_start = e ∙ x.starts_rest (r + 1) (omega arith)

    rises : end ≤ next
    rises = let a = x.asked.laid.rise r more in let b = x.ends in let c = next_start in omega arith

    rule : Rule
    rule = rule_of codes₀ starts₀ r

    rule_here : entries_of codes end (next - end) ≡ rule
    unfolding rule
    rule_here = entries_same codes₀ codes end (next - end) (λ i l. x.codes_rest i l) ∙ rw (x.ends, next_start) refl

    rule_long : length rule ≡ next - end
    rule_long = sym (ap length rule_here) ∙ entries_length codes end (next - end)

    behind : List Rule
    behind = rules_of codes₀ starts₀ (r + 1) (m - (r + 1))

    rules_left : rules_of codes₀ starts₀ r (m - r) ≡ rule ∷ behind
    unfolding rule behind
    rules_left =
        let z : m - r - 1 ≡ m - (r + 1) = omega arith in
        rw (rules_one codes₀ starts₀ r (m - r) (λ (n : m - r ≡ 0). omega arith), z) refl

    pub testable : Stampable codes end next (r + 1) stamps
    testable = record {
      upto = rises;
      within = let a = x.asked.laid.within r more in let b = next_start in let c = x.codes_long in omega arith;
      named = λ i a b. let l = next_start in rw (x.codes_rest i a) (named_at x.asked.laid r i more (omega arith));
      room = let l = x.stamps_long in omega arith;
      earlier = λ c. let l = x.earlier c in omega arith;
    }

    pub left_one : {stamps' : List ℕ} {b : Bool} → length stamps' ≡ 400 → Stamps codes end next (r + 1) b stamps' → b ≡ true → Leaving codes₀ starts₀ m codes starts stamps' next to left (r + 1)
    unfolding rule behind
    left_one long t out =
        let f = x.few in
        let d = x.down in
        let u = rises in
        let same : leave_out (rules_of codes₀ starts₀ r (m - r)) ≡ leave_out behind = ap leave_out rules_left ∙ leaves rule behind (sym (ap names_both rule_here) ∙ sym t.says ∙ out) in
        record {
          asked = x.asked;
          upto = omega arith;
          few = omega arith;
          ends = next_start;
          down = omega arith;
          codes_rest = λ i l. x.codes_rest i (omega arith);
          starts_rest = λ k l. x.starts_rest k (omega arith);
          codes_long = x.codes_long;
          starts_long = x.starts_long;
          stamps_long = long;
          earlier = t.earlier;
          number = rw same at x.number;
          codes_left = rw same at x.codes_left;
          starts_left = rw same at x.starts_left;
        }

    module _ {to' : ℕ} {codes' : List ℕ} (mv : Moves codes end next to to' codes') where
      to_behind : to' ≡ to + length rule
      to_behind = let a = mv.behind in omega (arith, rule_long)

      moved_rule : codes' ≡ sets codes to (entry_codes rule)
      moved_rule = mv.moved ∙ ap (λ (es : Rule). sets codes to (entry_codes es)) rule_here

      codes_put : (rs : List Rule) → sets codes' to' (entry_codes (entries rs)) ≡ sets codes to (entry_codes (entries (rule ∷ rs)))
      unfolding entries
      codes_put rs =
          let long : to + length rule ≡ to + length (entry_codes rule) = omega (arith, codes_length rule) in
          rw (moved_rule, to_behind, long) (sym (sets_append codes to (entry_codes rule) (entry_codes (entries rs))) ∙ sym (ap (sets codes to) (codes_append rule (entries rs))))

      starts_put : (rs : List Rule) → sets (set starts (left + 1) to') (left + 1 + 1) (ends_from to' rs) ≡ sets starts (left + 1) (ends_from to (rule ∷ rs))
      unfolding ends_from
      starts_put rs = let two : left + 1 + 1 ≡ suc (left + 1) = omega arith in rw (to_behind, two) refl

      pub stays_one : {stamps' : List ℕ} {b : Bool} → length stamps' ≡ 400 → Stamps codes end next (r + 1) b stamps' → b ≡ false → Leaving codes₀ starts₀ m codes' (set starts (left + 1) to') stamps' next to' (left + 1) (r + 1)
      unfolding rule behind
      stays_one long t stay =
          let f = x.few in
          let d = x.down in
          let u = rises in
          let b = mv.behind in
          let one_way : names_both rule ≡ false = sym (ap names_both rule_here) ∙ sym t.says ∙ stay in
          let same : leave_out (rules_of codes₀ starts₀ r (m - r)) ≡ rule ∷ leave_out behind = ap leave_out rules_left ∙ stays rule behind one_way in
          record {
            asked = x.asked;
            upto = omega arith;
            few = omega arith;
            ends = next_start;
            down = omega arith;
            codes_rest = λ i l.
                ap (λ (cs : List ℕ). get_or cs i 0) moved_rule
                ∙ sets_behind codes to (entry_codes rule) i (omega (arith, codes_length rule, rule_long))
                ∙ x.codes_rest i (omega arith);
            starts_rest = λ k l. get_or-set_other starts (left + 1) k to' 0 (λ (z : k ≡ left + 1). omega arith) ∙ x.starts_rest k (omega arith);
            codes_long = ap length moved_rule ∙ length-sets codes to (entry_codes rule) ∙ x.codes_long;
            starts_long = length-set starts (left + 1) to' ∙ x.starts_long;
            stamps_long = long;
            earlier = t.earlier;
            number = let n : left + suc (length (leave_out behind)) ≡ length (leave_out (rules_of codes₀ starts₀ 0 m)) = rw same at x.number in omega arith;
            codes_left = codes_put (leave_out behind) ∙ (rw same at x.codes_left);
            starts_left = starts_put (leave_out behind) ∙ (rw same at x.starts_left);
          }
