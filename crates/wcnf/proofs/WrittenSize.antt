-- THE TEXT OF EVERY ACCEPTED SHEET FITS 100,000 BYTES, IN EITHER EDITION (`text_fits`: at most 98,957).
--
-- The argument: a variable has at most 3 digits, a cost 10, the number of clauses 4 and the top weight 12. So a literal of a
-- rule takes at most 4 bytes, the line of a rule 15 more (`rules_size`), that of a pair at most 25 (`pairs_size`), that of a
-- denial 18 (`denials_size`), and the first line 29 (`first_size`); and a sheet of at most 16,384 words has at most 2,000 rules
-- and 200 devices, each of them one word more (`sheet_size`). Assumes nothing.
use mathlib.Core.Path.{◌≡◌, refl, ◌∙◌, ap}
use mathlib.Core.List.{List, [], ◌∷◌, ◌++◌}
use Prim.Native.Nat.{ℕ, zero, suc, ◌+◌, ◌*◌, ◌≤◌, ◌<◌}
use native.Mathlib.Omega.{arith}
use lib.ListN.{length, length-append}
use lib.IntN.{ℤ, pos}
use Rattle.lists.specs.Lists.{Each}
use Rattle.lists.specs.Bytes.{bytes}
use Rattle.hall.specs.Hall.{Entry, at1, at0, device, Rule, Hall, leave_out}
use Rattle.hall.specs.Bound.{entries}
use Rattle.hall.specs.Ranges.{RuleInRange, words_of, number_words, rule_words, words, SheetOf}
use Rattle.hall.proofs.LeftOut.{left_fewer, left_shorter, without_in_range}
use Rattle.hall.proofs.Words.{number_words_length, entry_words_length}
use Rattle.typed.specs.Printing.{digits_of}
use Rattle.typed.proofs.Printed.{digits_few}
use Rattle.printing.specs.Lines.{spaced, line_end, printed_entries}
use Rattle.rails.specs.Weighted.{top}
use Rattle.rails.specs.Rails.{variable, in_variables, not_both, denials, pairs_from, denials_from, rule_clauses, encoded, clauses}
use Rattle.rails.proofs.Sizes.{top_twice, clause_number}
use Rattle.wcnf.specs.declared.Edition.{Edition}
use Rattle.wcnf.specs.declared.Edition.TheVariants.{Since2022, Before2022}
use Rattle.wcnf.specs.Wcnf.{clause_line, clause_lines, first_line, wcnf}
use Rattle.wcnf.proofs.TotalsKept.{total_most, charged_most}
use Rattle.wcnf.proofs.WrittenLines.{clause_line_lem, one_literal, true_literal, false_literal, lines_append}

-- ── digits ──
digits_3 : (n : ℕ) → n < 1000 → length (digits_of n) ≤ 3
digits_3 n h = digits_few n n 2 h

digits_4 : (n : ℕ) → n < 10000 → length (digits_of n) ≤ 4
digits_4 n h = digits_few n n 3 h

digits_10 : (n : ℕ) → n < 10000000000 → length (digits_of n) ≤ 10
digits_10 n h = digits_few n n 9 h

digits_12 : (n : ℕ) → n < 1000000000000 → length (digits_of n) ≤ 12
digits_12 n h = digits_few n n 11 h

-- ── a line ──
line_size : (start : List ℕ) (c : Rule) → length (clause_line start c) ≡ length start + (length (printed_entries c) + 3)
line_size start c =
    ap length (clause_line_lem start c)
    ∙ length-append start (printed_entries c ++ bytes " 0\n")
    ∙ ap (λ (n : ℕ). length start + n) (length-append (printed_entries c) (bytes " 0\n"))

no_literal : length (printed_entries []) ≡ 0
unfolding spaced words_of
no_literal = refl

-- a variable below 400, as it is and denied
true_size : (v : ℕ) → v < 400 → length (printed_entries (at1 v ∷ [])) ≤ 4
true_size v h = omega (arith, ap length (true_literal v), digits_3 (v + 1) (omega arith))

false_size : (v : ℕ) → v < 400 → length (printed_entries (at0 v ∷ [])) ≤ 5
false_size v h = omega (arith, ap length (false_literal v), digits_3 (v + 1) (omega arith))

more_size : (e : Entry) (c : Rule) → length (printed_entries (e ∷ c)) ≡ length (printed_entries (e ∷ [])) + length (printed_entries c)
more_size e c = ap length (one_literal e c) ∙ length-append (printed_entries (e ∷ [])) (printed_entries c)

below_400 : (n : ℕ) (e : Entry) → n ≤ 200 → device e < n → variable e < 400
unfolding variable
below_400 n (at1 v) few h = omega arith
below_400 n (at0 v) few h = omega arith

rule_size : (n : ℕ) (r : Rule) → n ≤ 200 → Each (λ e. device e < n) r → length (printed_entries (in_variables r)) ≤ 4 * length r
rule_size n [] few a = omega (arith, no_literal)
rule_size n (e ∷ r) few a =
    omega (arith, more_size (at1 (variable e)) (in_variables r), true_size (variable e) (below_400 n e few a.0), rule_size n r few a.1)

-- ── all lines ──
rules_size : (n : ℕ) (start : List ℕ) (rs : List Rule) → n ≤ 200 → length start ≤ 12 → Each (RuleInRange n) rs
    → length (clause_lines start (rule_clauses rs)) ≤ 15 * length rs + 4 * length (entries rs)
unfolding clause_lines entries
rules_size n start [] few short a = omega arith
rules_size n start (r ∷ rs) few short a =
    omega (
      arith,
      length-append (clause_line start (in_variables r)) (clause_lines start (rule_clauses rs)),
      line_size start (in_variables r),
      rule_size n r few a.0.named,
      rules_size n start rs few short a.1,
      length-append r (entries rs),
    )

pairs_size : (start : List ℕ) (v : ℕ) (cs : List ℕ) → v + length cs ≤ 200 → length start ≤ 12 → length (clause_lines start (pairs_from v cs)) ≤ 25 * length cs
unfolding clause_lines pairs_from variable
pairs_size start v [] few short = omega arith
pairs_size start v (c ∷ cs) few short =
    omega (
      arith,
      length-append (clause_line start (not_both v)) (clause_lines start (pairs_from (suc v) cs)),
      line_size start (not_both v),
      more_size (at0 (v + v)) (at0 (v + v + 1) ∷ []),
      false_size (v + v) (omega arith),
      false_size (v + v + 1) (omega arith),
      pairs_size start (suc v) cs (omega arith) short,
    )

denial_size : (c v : ℕ) → c ≤ 1000000000 → v < 400 → length (clause_line (digits_of c) (at0 v ∷ [])) ≤ 18
denial_size c v cheap h = omega (arith, line_size (digits_of c) (at0 v ∷ []), digits_10 c (omega arith), false_size v h)

two_size : (start : List ℕ) (c v : ℕ) → c ≤ 1000000000 → v < 200 → length (clause_lines start (denials c v)) ≤ 36
unfolding clause_lines variable
two_size start zero v cheap h = omega arith
two_size start (suc c) v cheap h =
    let first = clause_line (digits_of (suc c)) (at0 (v + v) ∷ []) in
    let second = clause_line (digits_of (suc c)) (at0 (v + v + 1) ∷ []) in
    omega (arith, length-append first (second ++ []), length-append second [], denial_size (suc c) (v + v) cheap (omega arith), denial_size (suc c) (v + v + 1) cheap (omega arith))

denials_size : (start : List ℕ) (v : ℕ) (cs : List ℕ) → v + length cs ≤ 200 → Each (λ c. c ≤ 1000000000) cs → length (clause_lines start (denials_from v cs)) ≤ 36 * length cs
unfolding denials_from clause_lines
denials_size start v [] few a = omega arith
denials_size start v (c ∷ cs) few a =
    omega (
      arith,
      ap length (lines_append start (denials c v) (denials_from (suc v) cs)),
      length-append (clause_lines start (denials c v)) (clause_lines start (denials_from (suc v) cs)),
      two_size start c v a.0 (omega arith),
      denials_size start (suc v) cs (omega arith) a.1,
    )

-- ── the first line ──
three_numbers : (a b c : ℕ) → length (spaced digits_of (a ∷ b ∷ c ∷ [])) ≡ 3 + (length (digits_of a) + (length (digits_of b) + length (digits_of c)))
unfolding spaced
three_numbers a b c =
    omega (arith, length-append (digits_of a) (spaced digits_of (b ∷ c ∷ [])), length-append (digits_of b) (spaced digits_of (c ∷ [])), length-append (digits_of c) [])

module _ (rs : List Rule) (cs : List ℕ) (few : length cs ≤ 200) (cheap : Each (λ c. c ≤ 1000000000) cs) (count : length rs ≤ 2000) where
  top_size : length (digits_of (top (encoded rs cs))) ≤ 12
  top_size = digits_12 (top (encoded rs cs)) (omega (arith, top_twice rs cs, total_most cs cheap))

  first_size : length (first_line (length cs + length cs) (encoded rs cs)) ≤ 29
  first_size =
      let v = length cs + length cs in
      let m = length (encoded rs cs) in
      let t = top (encoded rs cs) in
      omega (
        arith,
        length-append (bytes "p wcnf") (spaced digits_of (v ∷ m ∷ t ∷ []) ++ line_end),
        length-append (spaced digits_of (v ∷ m ∷ t ∷ [])) line_end,
        three_numbers v m t,
        digits_3 v (omega arith),
        digits_4 m (omega (arith, clause_number rs cs, charged_most cs)),
        top_size,
      )

-- ── a sheet ──
rules_words : (rs : List Rule) → length (words_of rule_words rs) ≡ length rs + length (entries rs)
unfolding words_of rule_words entries
rules_words [] = refl
rules_words (r ∷ rs) =
    omega (arith, length-append (rule_words r) (words_of rule_words rs), entry_words_length r, rules_words rs, length-append r (entries rs))

sheet_size : {h : Hall} {ws : List ℤ} {room : ℕ} → SheetOf h ws room → 2 + length h.costs + length h.rules + length (entries h.rules) ≤ 16384
unfolding words
sheet_size {h} {ws} s =
    let short = s.short in
    omega (
      arith,
      ap length s.sheet,
      length-append (words_of number_words h.costs) (pos (length h.rules) ∷ words_of rule_words h.rules),
      number_words_length h.costs,
      rules_words h.rules,
    )

lines_size : {h : Hall} {ws : List ℤ} {room : ℕ} → SheetOf h ws room → (start : List ℕ) → length start ≤ 12 → length (clause_lines start (clauses h)) ≤ 98928
unfolding clauses
lines_size {h} s start short =
    let cs = h.costs in
    let rs = leave_out h.rules in
    let ranges = s.ranges in
    let few = ranges.devices in
    let count = ranges.count in
    omega (
      arith,
      ap length (lines_append start (rule_clauses rs) (pairs_from 0 cs ++ denials_from 0 cs)),
      length-append (clause_lines start (rule_clauses rs)) (clause_lines start (pairs_from 0 cs ++ denials_from 0 cs)),
      ap length (lines_append start (pairs_from 0 cs) (denials_from 0 cs)),
      length-append (clause_lines start (pairs_from 0 cs)) (clause_lines start (denials_from 0 cs)),
      rules_size (length cs) start rs few short (without_in_range h ranges).good,
      pairs_size start 0 cs (omega arith) short,
      denials_size start 0 cs (omega arith) ranges.cheap,
      left_fewer h.rules,
      left_shorter h.rules,
      sheet_size s,
    )

pub text_fits : {h : Hall} {ws : List ℤ} {room : ℕ} → SheetOf h ws room → (edition : Edition) → length (wcnf edition h) ≤ 98957
unfolding wcnf clauses
text_fits {h} s Since2022 = omega (arith, lines_size s (bytes "h") (omega arith))
text_fits {h} s Before2022 =
    let ranges = s.ranges in
    let rs = leave_out h.rules in
    let count = ranges.count in
    let fewer : length rs ≤ 2000 = omega (arith, left_fewer h.rules) in
    let start = digits_of (top (clauses h)) in
    omega (
      arith,
      length-append (first_line (length h.costs + length h.costs) (clauses h)) (clause_lines start (clauses h)),
      first_size rs h.costs ranges.devices ranges.cheap fewer,
      lines_size s start (top_size rs h.costs ranges.devices ranges.cheap fewer),
    )
