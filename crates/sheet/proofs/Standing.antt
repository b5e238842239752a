-- A good sheet: what stands on it, place by place, is the hall.
--
-- In order: a rule's width and its entries (`next_rule`); the costs, codes and starts that stand there are the hall's (`costs_stand`,
-- `codes_stand`, `starts_stand`); how many there are of them (`codes_length`, `starts_length`, `few_entries`). Assumes nothing.
use mathlib.Core.Path.{◌≡◌, refl, sym, ◌∙◌, ap}
use mathlib.Core.List.{List, [], ◌∷◌, ◌++◌, append_assoc}
use Prim.Native.Nat.{ℕ, suc, ◌+◌, ◌-◌, ◌≤◌, ◌<◌, zero-le}
use native.Mathlib.Omega.{arith}
use lib.ListN.{length, drop, length-append, length-drop}
use lib.IntN.{ℤ, pos}
use borrow.Author.Tests.{lt-ltb}
use Rattle.hall.specs.Hall.{Entry, at1, at0, device, Rule, Hall}
use Rattle.lists.specs.Lists.{Each}
use Rattle.hall.specs.Ranges.{RuleInRange, words_of, number_words, entry_words, rule_words, words, SheetOf}
use Rattle.hall.specs.Bound.{entries}
use Rattle.hall.proofs.Words.{entry_words_length}
use Rattle.hall.proofs.Reading.{drop_word, past}
use Rattle.sheet.specs.Coded.{entry_code, entry_codes, starts_from}
use Rattle.sheet.specs.Word.{value_at, code_at, run, numbers_from, codes_from}
use Rattle.sheet.specs.Placed.{codes_in, starts_in, RulesStand}

-- ── one rule ──
-- the width of a rule stands at its place, its entries behind it, and the other rules behind those
record RuleStands (ws : List ℤ) (at : ℕ) (r : Rule) (rest : List ℤ) : Type 0 where
  width : value_at ws at ≡ length r
  behind : drop (at + 1) ws ≡ words_of entry_words r ++ rest
  next : drop (at + 1 + length r) ws ≡ rest
  room : at + 1 + length r ≤ length ws

rule_stands : (ws : List ℤ) (at : ℕ) (r : Rule) (rest : List ℤ) → drop at ws ≡ rule_words r ++ rest → RuleStands ws at r rest
unfolding rule_words
rule_stands ws at r rest e =
    let b = past ws at (pos (length r) ∷ []) (words_of entry_words r ++ rest) e in
    let l = entry_words_length r in
    let m : length ws - at ≡ suc (length (words_of entry_words r ++ rest)) = sym (length-drop at ws) ∙ ap length e in
    record {
      width = rw (drop_word ws at (pos (length r)) (words_of entry_words r ++ rest) e);
      behind = b;
      next = ap (λ (k : ℕ). drop (at + 1 + k) ws) (sym l) ∙ past ws (at + 1) (words_of entry_words r) rest b;
      room = omega (arith, length-append (words_of entry_words r) rest);
    }

pub record NextRule (n : ℕ) (ws : List ℤ) (at left : ℕ) : Type 0 where
  pub narrow : value_at ws at ≤ 32
  pub room : at + 1 + value_at ws at ≤ length ws
  pub stands : RulesStand n ws (at + 1 + value_at ws at) (left - 1)

pub next_rule : (n : ℕ) (ws : List ℤ) (at left : ℕ) → RulesStand n ws at left → (left ≡ 0 → ⊥) → NextRule n ws at left
unfolding words_of
next_rule n ws at left s more = go s.rules s.sheet s.number s.good
  where
    go : (rs : List Rule) → drop at ws ≡ words_of rule_words rs → length rs ≡ left → Each (RuleInRange n) rs → NextRule n ws at left
    go [] e l g = absurd (more (sym l))
    go (r ∷ rs) e l g = made (rule_stands ws at r (words_of rule_words rs) e)
      where
        made : RuleStands ws at r (words_of rule_words rs) → NextRule n ws at left
        made t =
            let w = t.width in
            let narrow = g.0.width in
            let few = s.count in
            record { narrow = omega arith; room = let q = t.room in omega arith; stands = record { rules = rs; sheet = rw w t.next; number = omega arith; good = g.1; devices = s.devices; count = omega arith; short = s.short; inside = let q = t.room in omega arith } }

-- ── all of them ──
-- costs
pub costs_stand : (ws : List ℤ) (at : ℕ) (cs : List ℕ) (rest : List ℤ) → drop at ws ≡ words_of number_words cs ++ rest → numbers_from ws at (length cs) ≡ cs
unfolding run words_of
costs_stand ws at [] rest e = refl
costs_stand ws at (c ∷ cs) rest e =
    rw (drop_word ws at (pos c) (words_of number_words cs ++ rest) e, costs_stand ws (at + 1) cs rest (past ws at (pos c ∷ []) (words_of number_words cs ++ rest) e))

-- the codes of a rule's entries
code_stands : (n : ℕ) (ws : List ℤ) (at : ℕ) (e : Entry) (rest : List ℤ) → device e < n → drop at ws ≡ entry_words e ++ rest → code_at n ws at ≡ entry_code e
code_stands n ws at (at1 v) rest l e = rw (drop_word ws at _ rest e, lt-ltb v n l)
code_stands n ws at (at0 v) rest l e = rw (drop_word ws at _ rest e, lt-ltb v n l)

entry_width : (e : Entry) → length (entry_words e) ≡ 1
entry_width (at1 v) = refl
entry_width (at0 v) = refl

entries_stand : (n : ℕ) (ws : List ℤ) (at : ℕ) (r : Rule) (rest : List ℤ) → Each (λ e. device e < n) r → drop at ws ≡ words_of entry_words r ++ rest → codes_from n ws at (length r) ≡ entry_codes r
unfolding run words_of entry_codes
entries_stand n ws at [] rest g e = refl
entries_stand n ws at (d ∷ r) rest g e =
    let here : drop at ws ≡ entry_words d ++ (words_of entry_words r ++ rest) = e ∙ append_assoc (entry_words d) (words_of entry_words r) rest in
    let next : drop (at + 1) ws ≡ words_of entry_words r ++ rest = ap (λ (k : ℕ). drop (at + k) ws) (sym (entry_width d)) ∙ past ws at (entry_words d) (words_of entry_words r ++ rest) here in
    rw (code_stands n ws at d (words_of entry_words r ++ rest) g.0 here, entries_stand n ws (at + 1) r rest g.1 next)

pub codes_append : (a b : List Entry) → entry_codes (a ++ b) ≡ entry_codes a ++ entry_codes b
unfolding entry_codes
codes_append [] b = refl
codes_append (e ∷ a) b = ap (λ (l : List ℕ). entry_code e ∷ l) (codes_append a b)

-- the codes and the starts of the rules
pub codes_stand : (n : ℕ) (ws : List ℤ) (at : ℕ) (rs : List Rule) → Each (RuleInRange n) rs → drop at ws ≡ words_of rule_words rs → codes_in n ws at (length rs) ≡ entry_codes (entries rs)
unfolding codes_in words_of entries entry_codes
codes_stand n ws at [] g e = refl
codes_stand n ws at (r ∷ rs) g e = made (rule_stands ws at r (words_of rule_words rs) e) (codes_stand n ws (at + 1 + length r) rs g.1)
  where
    made : RuleStands ws at r (words_of rule_words rs) → (drop (at + 1 + length r) ws ≡ words_of rule_words rs → codes_in n ws (at + 1 + length r) (length rs) ≡ entry_codes (entries rs))
        → codes_from n ws (at + 1) (value_at ws at) ++ codes_in n ws (at + 1 + value_at ws at) (length rs) ≡ entry_codes (r ++ entries rs)
    made t ih = rw (t.width, entries_stand n ws (at + 1) r (words_of rule_words rs) g.0.named t.behind, ih t.next) (sym (codes_append r (entries rs)))

pub starts_stand : (ws : List ℤ) (at first : ℕ) (rs : List Rule) → drop at ws ≡ words_of rule_words rs → starts_in ws at first (length rs) ≡ starts_from first rs
unfolding starts_in words_of starts_from
starts_stand ws at first [] e = refl
starts_stand ws at first (r ∷ rs) e = made (rule_stands ws at r (words_of rule_words rs) e) (λ k. starts_stand ws (at + 1 + length r) (first + length r) rs k)
  where
    made : RuleStands ws at r (words_of rule_words rs) → (drop (at + 1 + length r) ws ≡ words_of rule_words rs → starts_in ws (at + 1 + length r) (first + length r) (length rs) ≡ starts_from (first + length r) rs)
        → first ∷ starts_in ws (at + 1 + value_at ws at) (first + value_at ws at) (length rs) ≡ first ∷ starts_from (first + length r) rs
    made t ih = rw (t.width, ih t.next)

-- ── how many ──
pub codes_length : (es : List Entry) → length (entry_codes es) ≡ length es
unfolding entry_codes
codes_length [] = refl
codes_length (e ∷ es) = ap suc (codes_length es)

pub starts_length : (first : ℕ) (rs : List Rule) → length (starts_from first rs) ≡ suc (length rs)
unfolding starts_from
starts_length first [] = refl
starts_length first (r ∷ rs) = ap suc (starts_length (first + length r) rs)

-- there are no more entries than words
rule_entries : (rs : List Rule) → length (entries rs) ≤ length (words_of rule_words rs)
unfolding entries words_of rule_words
rule_entries [] = zero-le
rule_entries (r ∷ rs) = omega (
  arith,
  length-append r (entries rs),
  length-append (words_of entry_words r) (words_of rule_words rs),
  entry_words_length r,
  rule_entries rs,
)

pub few_entries : {h : Hall} {ws : List ℤ} {room : ℕ} → SheetOf h ws room → length (entries h.rules) ≤ 16384
unfolding words
few_entries {h} {ws} s =
    let short = s.short in
    omega (arith, ap length s.sheet, length-append (words_of number_words h.costs) (pos (length h.rules) ∷ words_of rule_words h.rules), rule_entries h.rules)
