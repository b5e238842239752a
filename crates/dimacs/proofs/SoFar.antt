-- The sheet so far: what it is made of, how long it is, that it never falls, and that it becomes the hall's.
--
-- In order: how long the counts are (`ones_long`, `devices_long`, `counts_long`); the closed clauses and the open one (`closed_words`,
-- `so_far`, `closed_more`, `closed_same`, `closed_counts`), and how long the sheet is with one number more (`rule_long`, `close_long`,
-- `enter_long`); it never falls, by an entry, a clause that closes, clauses, or the counts (`grows_entries`, `grows_close`, `grows_closed`,
-- `grows_counts`); where every clause is closed it is the hall's sheet (`sheet_words`, `hall_words`). Assumes nothing.
use mathlib.Core.Path.{◌≡◌, sym, ◌∙◌, ap}
use mathlib.Core.List.{List, [], ◌∷◌, ◌++◌, append-nil, append_assoc}
use Prim.Native.Nat.{ℕ, ◌+◌, ◌≤◌}
use native.Mathlib.Omega.{arith}
use lib.ListN.{length, replicate, length-append, length-replicate}
use lib.IntN.{ℤ, pos}
use Rattle.hall.specs.Hall.{Entry, Rule}
use Rattle.hall.specs.Ranges.{words_of, number_words, entry_words, rule_words, words}
use Rattle.hall.proofs.Words.{words_append, words_one, number_words_length, entry_words_length}
use Rattle.dimacs.specs.Stage.{Stage, clauses, inside, unit_hall, device_words, open_words, sheet_so_far}

abbrev pub sheet_length : Stage → ℕ
sheet_length s = length (sheet_so_far s)

-- ── the counts ──
pub ones_long : (n : ℕ) → length (words_of number_words (replicate n 1)) ≡ n
ones_long n = number_words_length (replicate n 1) ∙ length-replicate n 1

pub devices_long : (n : ℕ) → sheet_length (clauses n) ≡ n + 1
unfolding sheet_so_far
devices_long n = omega (arith, ones_long n)

pub counts_long : (n m : ℕ) → sheet_length (inside n m [] []) ≡ n + 2
unfolding sheet_so_far words_of
counts_long n m = omega (arith, ones_long n, length-append (device_words n) (pos m ∷ []))

-- ── the closed clauses and the open one ──
unfoldable pub closed_words : (n m : ℕ) → List Rule → List ℤ
closed_words n m rules = device_words n ++ (pos m ∷ words_of rule_words rules)

pub rule_long : (entries : Rule) → length (rule_words entries) ≡ length entries + 1
unfolding rule_words
rule_long entries = omega (arith, entry_words_length entries)

pub closed_same : (n m k : ℕ) (rules : List Rule) → length (closed_words n m rules) ≡ length (closed_words n k rules)
unfolding closed_words
closed_same n m k rules =
    length-append (device_words n) (pos m ∷ words_of rule_words rules) ∙ sym (length-append (device_words n) (pos k ∷ words_of rule_words rules))

pub closed_counts : (n m : ℕ) (rules : List Rule) → n + 2 ≤ length (closed_words n m rules)
unfolding closed_words
closed_counts n m rules = omega (arith, ones_long n, length-append (device_words n) (pos m ∷ words_of rule_words rules))

module _ (n m : ℕ) (rules : List Rule) where
  pub so_far : (entries : Rule) → sheet_so_far (inside n m rules entries) ≡ closed_words n m rules ++ open_words entries
  unfolding sheet_so_far closed_words
  so_far entries = sym (append_assoc (device_words n) (pos m ∷ words_of rule_words rules) (open_words entries))

  inside_long : (entries : Rule) → sheet_length (inside n m rules entries) ≡ length (closed_words n m rules) + length (open_words entries)
  inside_long entries = ap length (so_far entries) ∙ length-append (closed_words n m rules) (open_words entries)

  pub all_closed : sheet_so_far (inside n m rules []) ≡ closed_words n m rules
  all_closed = so_far [] ∙ append-nil (closed_words n m rules)

  pub closed_more : (r : Rule) → closed_words n m (rules ++ (r ∷ [])) ≡ closed_words n m rules ++ rule_words r
  unfolding closed_words
  closed_more r =
      ap (λ (l : List ℤ). device_words n ++ (pos m ∷ l))
      (words_append rule_words rules (r ∷ []) ∙ ap (λ (l : List ℤ). words_of rule_words rules ++ l) (words_one rule_words r))
      ∙ sym (append_assoc (device_words n) (pos m ∷ words_of rule_words rules) (rule_words r))

module _ (n m : ℕ) (rules : List Rule) (entries : Rule) where
  pub close_long : sheet_length (inside n m (rules ++ (entries ∷ [])) []) ≡ length (closed_words n m rules) + length entries + 1
  close_long =
      ap length (all_closed n m (rules ++ (entries ∷ [])) ∙ closed_more n m rules entries)
      ∙ length-append (closed_words n m rules) (rule_words entries)
      ∙ omega (arith, rule_long entries)

  some_open : (entries : Rule) (e : Entry) → length (open_words (entries ++ (e ∷ []))) ≡ length entries + 2
  some_open [] e = rule_long (e ∷ [])
  some_open (x ∷ entries) e = omega (arith, rule_long ((x ∷ entries) ++ (e ∷ [])), length-append entries (e ∷ []))

  pub enter_long : (e : Entry) → sheet_length (inside n m rules (entries ++ (e ∷ []))) ≡ length (closed_words n m rules) + length entries + 2
  enter_long e = omega (arith, inside_long n m rules (entries ++ (e ∷ [])), some_open entries e)

-- ── it never falls ──
words_length : {A : Type 0} (f : A → List ℤ) (l m : List A) → length (words_of f (l ++ m)) ≡ length (words_of f l) + length (words_of f m)
words_length f l m = ap length (words_append f l m) ∙ length-append (words_of f l) (words_of f m)

open_grows : (es more : Rule) → length (open_words es) ≤ length (open_words (es ++ more))
unfolding rule_words
open_grows [] more = omega arith
open_grows (e ∷ es) more = omega (arith, words_length entry_words (e ∷ es) more)

open_rule : (es : Rule) → length (open_words es) ≤ length (rule_words es)
open_rule [] = omega arith
open_rule (e ∷ es) = omega arith

pub grows_entries : (n m : ℕ) (closed : List Rule) (es more : Rule) → sheet_length (inside n m closed es) ≤ sheet_length (inside n m closed (es ++ more))
grows_entries n m closed es more = omega (arith, inside_long n m closed es, inside_long n m closed (es ++ more), open_grows es more)

pub grows_close : (n m : ℕ) (closed : List Rule) (es : Rule) → sheet_length (inside n m closed es) ≤ sheet_length (inside n m (closed ++ (es ∷ [])) [])
grows_close n m closed es = omega (arith, inside_long n m closed es, close_long n m closed es, open_rule es, rule_long es)

pub grows_closed : (n m : ℕ) (closed more : List Rule) → sheet_length (inside n m closed []) ≤ sheet_length (inside n m (closed ++ more) [])
unfolding closed_words
grows_closed n m closed more =
    omega
    (arith, inside_long n m closed [], inside_long n m (closed ++ more) [], words_length rule_words closed more, length-append (device_words n) (pos m ∷ words_of rule_words closed), length-append (device_words n) (pos m ∷ words_of rule_words (closed ++ more)))

pub grows_counts : (n m : ℕ) (closed : List Rule) (entries : Rule) → sheet_length (clauses n) ≤ sheet_length (inside n m closed entries)
grows_counts n m closed entries = omega (arith, devices_long n, inside_long n m closed entries, closed_counts n m closed)

-- ── the hall's sheet ──
pub hall_words : (n : ℕ) (rules : List Rule) → words (unit_hall n rules) ≡ closed_words n (length rules) rules
unfolding words closed_words
hall_words n rules =
    ap (λ (k : ℕ). pos k ∷ (words_of number_words (replicate n 1) ++ (pos (length rules) ∷ words_of rule_words rules))) (length-replicate {A = ℕ} n 1)

pub sheet_words : (n : ℕ) (rules : List Rule) → sheet_so_far (inside n (length rules) rules []) ≡ words (unit_hall n rules)
sheet_words n rules = all_closed n (length rules) rules ∙ sym (hall_words n rules)
