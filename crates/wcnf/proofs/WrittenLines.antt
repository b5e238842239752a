-- The lines of clauses, piece by piece, as they are put on a page.
--
-- In order: a line is what starts it, its literals and ` 0` with byte 10 (`clause_line_lem`, `clause_puts`); one literal (`one_literal`,
-- `true_literal`, `false_literal`); the entries of a rule in their variables, by their codes (`entries_none`, `entries_more`); the rules
-- (`rules_none`, `rule_put`); the pair of a device (`pair_puts`) and all pairs (`pairs_none`, `pairs_more`); a denial (`denial_puts`), the
-- two of a device (`free_puts`, `denials_put`) and all of them (`costs_none`, `costs_more`); the three kinds of clauses one behind the
-- other (`lines_append`, `clauses_put`). Assumes nothing.
use mathlib.Core.Path.{◌≡◌, refl, sym, ◌∙◌, ap}
use mathlib.Core.List.{List, [], ◌∷◌, ◌++◌, append_assoc, append-nil, map}
use Prim.Native.Nat.{ℕ, zero, suc, ◌+◌, ◌*◌, ◌≤◌, ◌<◌}
use native.Mathlib.Numerals.{add-one}
use native.Mathlib.Nat.{add-zero}
use native.Mathlib.Omega.{arith}
use lib.ListN.{length, get_or, take}
use lib.Seq.{take-suc, length-take-le}
use lib.IntN.{pos}
use Rattle.std.proofs.lemmas.List.{map-append}
use Rattle.lists.specs.Bytes.{bytes}
use Rattle.hall.specs.Hall.{Entry, at1, at0, Rule}
use Rattle.hall.specs.Ranges.{words_of, entry_words}
use Rattle.sheet.specs.Coded.{entry_of, rule_of, rules_of, entry_code}
use Rattle.sheet.proofs.Codes.{code_back}
use Rattle.needed.specs.declared.coded.Coded.{Coded}
use Rattle.needed.specs.Rules.{IsRule}
use Rattle.typed.specs.Printing.{digits_by, digits_of, printed_word}
use Rattle.printing.specs.declared.Page.{Page}
use Rattle.printing.specs.Lines.{spaced, line_end, printed_entries}
use Rattle.printing.specs.Contract.{Puts}
use Rattle.printing.proofs.Putting.{puts_then, puts_more, puts_nothing, spaced_append}
use Rattle.printing.proofs.Devices.{printed_append}
use Rattle.rails.specs.Weighted.{Clause, hard, soft}
use Rattle.rails.specs.Rails.{variable, in_variables, denied, not_both, denials, pairs_from, denials_from, rule_clauses, encoded}
use Rattle.wcnf.specs.Wcnf.{clause_line, line_of, clause_lines}

-- ── a line ──
pub clause_line_lem : (start : List ℕ) (c : Rule) → clause_line start c ≡ start ++ (printed_entries c ++ bytes " 0\n")
unfolding spaced digits_by
clause_line_lem start c =
    ap (λ (t : List ℕ). start ++ (t ++ line_end)) (spaced_append printed_word (words_of entry_words c) (pos 0 ∷ []))
    ∙ ap (λ (t : List ℕ). start ++ t) (append_assoc (printed_entries c) (bytes " 0") line_end)

module _ {before first next after : Page} where
  pub clause_puts : (start : List ℕ) (c : Rule) → Puts start before first → Puts (printed_entries c) first next → Puts (bytes " 0\n") next after
      → Puts (clause_line start c) before after
  clause_puts start c p q s = rw (clause_line_lem start c) (puts_then p (puts_then q s))

-- one literal, in front of others
pub one_literal : (e : Entry) (c : Rule) → printed_entries (e ∷ c) ≡ printed_entries (e ∷ []) ++ printed_entries c
one_literal e c = printed_append (e ∷ []) c

pub true_literal : (v : ℕ) → printed_entries (at1 v ∷ []) ≡ bytes " " ++ digits_of (v + 1)
unfolding spaced words_of
true_literal v = rw (add-one v) (ap (λ (t : List ℕ). bytes " " ++ t) (append-nil (digits_of (suc v))))

pub false_literal : (v : ℕ) → printed_entries (at0 v ∷ []) ≡ bytes " -" ++ digits_of (v + 1)
unfolding spaced words_of
false_literal v = rw (add-one v) (ap (λ (t : List ℕ). bytes " -" ++ t) (append-nil (digits_of (suc v))))

-- ── entries ──
-- a code is the number of its entry's variable
variable_code : (e : Entry) → variable e ≡ entry_code e
unfolding variable entry_code
variable_code (at1 v) = refl
variable_code (at0 v) = refl

entry_text : (code : ℕ) → printed_entries (at1 (variable (entry_of code)) ∷ []) ≡ bytes " " ++ digits_of (code + 1)
entry_text code = ap (λ (v : ℕ). printed_entries (at1 v ∷ [])) (variable_code (entry_of code) ∙ code_back code) ∙ true_literal code

pub entries_none : (codes : List ℕ) → printed_entries (in_variables (map entry_of (take 0 codes))) ≡ []
unfolding spaced words_of
entries_none codes = refl

pub entries_more : (codes : List ℕ) (i : ℕ) → i < length codes
    → printed_entries (in_variables (map entry_of (take (i + 1) codes)))
    ≡ printed_entries (in_variables (map entry_of (take i codes))) ++ (bytes " " ++ digits_of (get_or codes i 0 + 1))
entries_more codes i h =
    let front = map entry_of (take i codes) in
    rw (add-one i, take-suc codes i 0 h, map-append entry_of (take i codes) (get_or codes i 0 ∷ []))
    (ap printed_entries (map-append (λ (e : Entry). at1 (variable e)) front (entry_of (get_or codes i 0) ∷ []))
    ∙ printed_append (in_variables front) (at1 (variable (entry_of (get_or codes i 0))) ∷ [])
    ∙ ap (λ (t : List ℕ). printed_entries (in_variables front) ++ t) (entry_text (get_or codes i 0)))

-- ── lines, one list behind another ──
pub lines_append : (start : List ℕ) (cs ds : List Clause) → clause_lines start (cs ++ ds) ≡ clause_lines start cs ++ clause_lines start ds
unfolding clause_lines
lines_append start [] ds = refl
lines_append start (c ∷ cs) ds = ap (λ (t : List ℕ). line_of start c ++ t) (lines_append start cs ds) ∙ sym (append_assoc (line_of start c) (clause_lines start cs) (clause_lines start ds))

lines_one : (start : List ℕ) (cs : List Clause) (c : Rule) → clause_lines start (cs ++ (hard c ∷ [])) ≡ clause_lines start cs ++ clause_line start c
unfolding clause_lines
lines_one start cs c = lines_append start cs (hard c ∷ []) ∙ ap (λ (t : List ℕ). clause_lines start cs ++ t) (append-nil (clause_line start c))

-- ── rules ──
rules_behind : (codes starts : List ℕ) (r many : ℕ) → rules_of codes starts r (suc many) ≡ rules_of codes starts r many ++ (rule_of codes starts (r + many) ∷ [])
unfolding rules_of
rules_behind codes starts r zero = rw add-zero refl
rules_behind codes starts r (suc many) =
    let place : r + suc many ≡ r + 1 + many = omega arith in
    rw place (ap (λ (rs : List Rule). rule_of codes starts r ∷ rs) (rules_behind codes starts (r + 1) many))

first_rules : (codes starts : List ℕ) (many : ℕ) → rules_of codes starts 0 (many + 1) ≡ rules_of codes starts 0 many ++ (rule_of codes starts many ∷ [])
first_rules codes starts many =
    let place : 0 + many ≡ many = omega arith in
    ap (rules_of codes starts 0) (add-one many) ∙ (rules_behind codes starts 0 many ∙ ap (λ (r : ℕ). rules_of codes starts 0 many ++ (rule_of codes starts r ∷ [])) place)

pub rules_none : (start codes starts : List ℕ) → clause_lines start (rule_clauses (rules_of codes starts 0 0)) ≡ []
unfolding rules_of clause_lines
rules_none start codes starts = refl

module _ (start : List ℕ) (h : Coded) (r : ℕ) (below : r < h.rules) (codes : List ℕ) (is : IsRule h r codes) {before next after : Page} where
  pub rule_put : Puts (clause_lines start (rule_clauses (rules_of h.codes.now h.starts.now 0 r))) before next
      → Puts (clause_line start (in_variables (map entry_of codes))) next after
      → Puts (clause_lines start (rule_clauses (rules_of h.codes.now h.starts.now 0 (r + 1)))) before after
  rule_put p q =
      let front = rules_of h.codes.now h.starts.now 0 r in
      let one = rule_of h.codes.now h.starts.now r in
      puts_more (clause_lines start (rule_clauses front)) (clause_line start (in_variables one))
      (ap (λ (rs : List Rule). clause_lines start (rule_clauses rs)) (first_rules h.codes.now h.starts.now r)
      ∙ ap (clause_lines start) (map-append (λ (c : Rule). hard (in_variables c)) front (one ∷ []))
      ∙ lines_one start (rule_clauses front) (in_variables one))
      p (rw (is.says below) at q)

-- ── pairs ──
pub pair_puts : (start : List ℕ) (v : ℕ) (before first one two after : Page) → Puts start before first → Puts (bytes " -" ++ digits_of (2 * v + 1)) first one
    → Puts (bytes " -" ++ digits_of (2 * v + 2)) one two → Puts (bytes " 0\n") two after → Puts (clause_line start (not_both v)) before after
unfolding variable
pair_puts start v before first one two after p q s t =
    let a : 2 * v + 1 ≡ v + v + 1 = omega arith in
    let b : 2 * v + 2 ≡ v + v + 1 + 1 = omega arith in
    clause_puts start (not_both v) p
    (rw (one_literal (at0 (v + v)) (at0 (v + v + 1) ∷ []), false_literal (v + v), false_literal (v + v + 1)) (puts_then (rw a at q) (rw b at s)))
    t

pairs_append : (v : ℕ) (cs ds : List ℕ) → pairs_from v (cs ++ ds) ≡ pairs_from v cs ++ pairs_from (v + length cs) ds
unfolding pairs_from
pairs_append v [] ds = rw add-zero refl
pairs_append v (c ∷ cs) ds =
    let place : v + suc (length cs) ≡ suc v + length cs = omega arith in
    rw place (ap (λ (l : List Clause). hard (not_both v) ∷ l) (pairs_append (suc v) cs ds))

pub pairs_none : (start costs : List ℕ) → clause_lines start (pairs_from 0 (take 0 costs)) ≡ []
unfolding clause_lines pairs_from
pairs_none start costs = refl

pub pairs_more : (start costs : List ℕ) (v : ℕ) → v < length costs
    → clause_lines start (pairs_from 0 (take (v + 1) costs)) ≡ clause_lines start (pairs_from 0 (take v costs)) ++ clause_line start (not_both v)
unfolding pairs_from
pairs_more start costs v h =
    let place : 0 + length (take v costs) ≡ v = omega (arith, length-take-le v costs) in
    rw (add-one, take-suc costs v 0 h, pairs_append 0 (take v costs) (get_or costs v 0 ∷ []), place) (lines_one start (pairs_from 0 (take v costs)) (not_both v))

-- ── denials ──
pub denial_puts : (cost v : ℕ) (before first next after : Page) → Puts (bytes "" ++ digits_of cost) before first → Puts (bytes " -" ++ digits_of (v + 1)) first next
    → Puts (bytes " 0\n") next after → Puts (clause_line (digits_of cost) (at0 v ∷ [])) before after
denial_puts cost v before first next after p q s = clause_puts (digits_of cost) (at0 v ∷ []) p (rw (false_literal v) q) s

pub free_puts : (cost v : ℕ) (page : Page) → cost ≤ 0 → Puts (clause_lines [] (denials cost v)) page page
unfolding clause_lines
free_puts zero v page h = puts_nothing refl
free_puts (suc c) v page h = absurd (omega arith)

pub denials_put : (cost v : ℕ) (before next after : Page) → 0 < cost → Puts (clause_line (digits_of cost) (at0 (2 * v) ∷ [])) before next
    → Puts (clause_line (digits_of cost) (at0 (2 * v + 1) ∷ [])) next after → Puts (clause_lines [] (denials cost v)) before after
unfolding clause_lines variable
denials_put zero v before next after some p q = absurd (omega arith)
denials_put (suc c) v before next after some p q =
    let a : 2 * v ≡ v + v = omega arith in
    let b : 2 * v + 1 ≡ v + v + 1 = omega arith in
    rw append-nil (puts_then (rw a at p) (rw b at q))

-- the lines of soft clauses are the same, whatever starts a hard one
denials_start : (start : List ℕ) (v : ℕ) (cs : List ℕ) → clause_lines start (denials_from v cs) ≡ clause_lines [] (denials_from v cs)
unfolding clause_lines denials_from
denials_start start v [] = refl
denials_start start v (zero ∷ cs) = denials_start start (suc v) cs
denials_start start v (suc c ∷ cs) =
    ap (λ (t : List ℕ). line_of [] (soft (suc c) (denied (at1 v) ∷ [])) ++ (line_of [] (soft (suc c) (denied (at0 v) ∷ [])) ++ t)) (denials_start start (suc v) cs)

denials_append : (v : ℕ) (cs ds : List ℕ) → denials_from v (cs ++ ds) ≡ denials_from v cs ++ denials_from (v + length cs) ds
unfolding denials_from
denials_append v [] ds = rw add-zero refl
denials_append v (c ∷ cs) ds =
    let place : v + suc (length cs) ≡ suc v + length cs = omega arith in
    rw (place, append_assoc (denials c v)) (ap (λ (l : List Clause). denials c v ++ l) (denials_append (suc v) cs ds))

pub costs_none : (costs : List ℕ) → clause_lines [] (denials_from 0 (take 0 costs)) ≡ []
unfolding clause_lines denials_from
costs_none costs = refl

pub costs_more : (costs : List ℕ) (v : ℕ) → v < length costs
    → clause_lines [] (denials_from 0 (take (v + 1) costs)) ≡ clause_lines [] (denials_from 0 (take v costs)) ++ clause_lines [] (denials (get_or costs v 0) v)
unfolding denials_from
costs_more costs v h =
    let place : 0 + length (take v costs) ≡ v = omega (arith, length-take-le v costs) in
    rw (add-one, take-suc costs v 0 h, denials_append 0 (take v costs) (get_or costs v 0 ∷ []), place, append-nil (denials (get_or costs v 0) v))
    (lines_append [] (denials_from 0 (take v costs)) (denials (get_or costs v 0) v))

-- ── all clauses ──
pub clauses_put : (start : List ℕ) (rs : List Rule) (cs : List ℕ) (before first next after : Page) → Puts (clause_lines start (rule_clauses rs)) before first
    → Puts (clause_lines start (pairs_from 0 cs)) first next → Puts (clause_lines [] (denials_from 0 cs)) next after
    → Puts (clause_lines start (encoded rs cs)) before after
clauses_put start rs cs before first next after p q s =
    rw (lines_append start (rule_clauses rs) (pairs_from 0 cs ++ denials_from 0 cs), lines_append start (pairs_from 0 cs) (denials_from 0 cs), denials_start start 0 cs)
    (puts_then p (puts_then q s))
