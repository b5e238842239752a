-- The numbers up to a stage that is in range, and fits, lead to that stage.
--
-- In order: numbers that lead from one stage to another, with room for each (`Takes`, `takes_append`), and what is read behind them
-- (`closed_numbers`); the entries of a clause, the clauses and the counts (`takes_entries`, `takes_clause`, `takes_clauses`, `takes_open`,
-- `stage_takes`). Assumes nothing.
use mathlib.Core.Path.{◌≡◌, refl, sym, ◌∙◌, ap, subst}
use mathlib.Core.Bool.{true}
use mathlib.Core.List.{List, [], ◌∷◌, ◌++◌, append_assoc, append-nil}
use Prim.Native.Nat.{ℕ, suc, ◌+◌, ◌≤◌, ◌<◌}
use native.Mathlib.Omega.{arith}
use lib.ListN.{length, length-append}
use lib.Seq.{append_snoc}
use lib.IntN.{ℤ}
use Rattle.lists.specs.Lists.{Each}
use Rattle.hall.specs.Hall.{Entry, at1, at0, device, Rule}
use Rattle.hall.specs.Ranges.{RuleInRange, words_of, entry_words}
use Rattle.typed.specs.Text as typed
use Rattle.typed.specs.Text.{placed, tokens_from}
use Rattle.typed.specs.Allowed.{Closed, nothing, separator, word}
use Rattle.typed.proofs.Sayings.{says_only}
use Rattle.typed.proofs.Reaching.{allowed_bytes, allowed_some, skip_one, past_token}
use Rattle.dimacs.specs.Stage.{Stage, variables, clauses, inside}
use Rattle.dimacs.specs.File.{read_numbers}
use Rattle.dimacs.specs.Standing.{clause_numbers, numbers_to, ClausesInRange, InRange}
use Rattle.dimacs.specs.Reasons.{Leads, variable_count, clause_count, entry, close}
use Rattle.dimacs.proofs.Stepping.{numbers_on}
use Rattle.dimacs.proofs.SoFar.{sheet_length, grows_entries, grows_close, grows_closed, grows_counts}
use Rattle.dimacs.proofs.OneNumber.{leads_taken}

-- ── one number after another ──
-- numbers lead from one stage to another, with room for each
pub data Takes (limit : ℕ) : Stage → List ℤ → Stage → Type 0 where
  none : {s : Stage} → Takes limit s [] s
  one : {s last : Stage} {z : ℤ} {zs : List ℤ} (next : Stage) → Leads s z next → sheet_length next ≤ limit → Takes limit next zs last
      → Takes limit s (z ∷ zs) last

takes_append : {limit : ℕ} {s t u : Stage} {ws vs : List ℤ} → Takes limit s ws t → Takes limit t vs u → Takes limit s (ws ++ vs) u
takes_append none d = d
takes_append (one next l fits c) d = one next l fits (takes_append c d)

pub closed_numbers : {limit : ℕ} {s last : Stage} {before : List ℕ} {words : List ℤ} (end : ℕ) → Closed before words → (i : ℕ) (rest : List ℕ) → Takes limit s words last
    → read_numbers limit end s (tokens_from true i (before ++ rest)) ≡ read_numbers limit end last (tokens_from true (i + length before) rest)
closed_numbers {limit} {s} end nothing i rest none = ap (λ (j : ℕ). read_numbers limit end s (tokens_from true j rest)) (omega arith)
closed_numbers {limit} {s} {last} end (separator {b} {bs} {words} e c) i rest t =
    ap (read_numbers limit end s) (skip_one i b (bs ++ rest) e)
    ∙ closed_numbers end c (suc i) rest t
    ∙ ap (λ (j : ℕ). read_numbers limit end last (tokens_from true j rest)) (omega arith)
closed_numbers {limit} {s} {last} end (word {token} {z} b {bs} {words} a e c) i rest (one next leads fits t) =
    let ts = tokens_from true (suc (i + length token)) (bs ++ rest) in
    let j : suc (i + length token) + length bs ≡ i + length (token ++ (b ∷ bs)) = omega (arith, length-append token (b ∷ bs)) in
    ap (read_numbers limit end s)
    (ap (tokens_from true i) (append_assoc token (b ∷ bs) rest) ∙ past_token i token b (bs ++ rest) (allowed_some a) (allowed_bytes a) e)
    ∙ numbers_on limit end s (placed i token) ts z (says_only i token (typed.got z) a) next (leads_taken leads) fits
    ∙ closed_numbers end c (suc (i + length token)) rest t
    ∙ ap (λ (j : ℕ). read_numbers limit end last (tokens_from true j rest)) j

-- ── the numbers up to a stage ──
module _ (limit n m : ℕ) where
  module _ (closed : List Rule) (h : length closed < m) where
    takes_entry : (entries : Rule) (e : Entry) → device e < n → length entries < 32 → sheet_length (inside n m closed (entries ++ (e ∷ []))) ≤ limit
        → Takes limit (inside n m closed entries) (entry_words e) (inside n m closed (entries ++ (e ∷ [])))
    takes_entry entries (at1 v) d w fits =
        one (inside n m closed (entries ++ (at1 v ∷ []))) (entry (at1 v) h refl d w) fits none
    takes_entry entries (at0 v) d w fits =
        one (inside n m closed (entries ++ (at0 v ∷ []))) (entry (at0 v) h refl d w) fits none

    takes_entries : (es more : Rule) → length (es ++ more) ≤ 32 → Each (λ e. device e < n) more → sheet_length (inside n m closed (es ++ more)) ≤ limit
        → Takes limit (inside n m closed es) (words_of entry_words more) (inside n m closed (es ++ more))
    unfolding words_of
    takes_entries es [] w d fits = subst (λ (l : Rule). Takes limit (inside n m closed es) [] (inside n m closed l)) (sym (append-nil es)) none
    takes_entries es (e ∷ more) w d fits =
        let whole : (es ++ (e ∷ [])) ++ more ≡ es ++ (e ∷ more) = append_snoc es e more in
        let all : sheet_length (inside n m closed ((es ++ (e ∷ [])) ++ more)) ≤ limit =
        subst (λ (l : Rule). sheet_length (inside n m closed l) ≤ limit) (sym whole) fits in
        let first : sheet_length (inside n m closed (es ++ (e ∷ []))) ≤ limit = omega (arith, grows_entries n m closed (es ++ (e ∷ [])) more, all) in
        subst (λ (l : Rule). Takes limit (inside n m closed es) (entry_words e ++ words_of entry_words more) (inside n m closed l)) whole
        (takes_append (takes_entry es e d.0 (omega (arith, w, length-append es (e ∷ more))) first)
        (takes_entries (es ++ (e ∷ [])) more (subst (λ (l : Rule). length l ≤ 32) (sym whole) w) d.1 all))

    takes_clause : (c : Rule) → RuleInRange n c → sheet_length (inside n m (closed ++ (c ∷ [])) []) ≤ limit
        → Takes limit (inside n m closed []) (clause_numbers c) (inside n m (closed ++ (c ∷ [])) [])
    takes_clause c r fits =
        takes_append (takes_entries [] c r.width r.named (omega (arith, grows_close n m closed c, fits)))
        (one (inside n m (closed ++ (c ∷ [])) []) (close h) fits none)

  takes_clauses : (closed more : List Rule) → length (closed ++ more) ≤ m → Each (RuleInRange n) more → sheet_length (inside n m (closed ++ more) []) ≤ limit
      → Takes limit (inside n m closed []) (words_of clause_numbers more) (inside n m (closed ++ more) [])
  unfolding words_of
  takes_clauses closed [] l g fits = subst (λ (l : List Rule). Takes limit (inside n m closed []) [] (inside n m l [])) (sym (append-nil closed)) none
  takes_clauses closed (c ∷ more) l g fits =
      let whole : (closed ++ (c ∷ [])) ++ more ≡ closed ++ (c ∷ more) = append_snoc closed c more in
      let all : sheet_length (inside n m ((closed ++ (c ∷ [])) ++ more) []) ≤ limit =
      subst (λ (l : List Rule). sheet_length (inside n m l []) ≤ limit) (sym whole) fits in
      let first : sheet_length (inside n m (closed ++ (c ∷ [])) []) ≤ limit = omega (arith, grows_closed n m (closed ++ (c ∷ [])) more, all) in
      subst (λ (l : List Rule). Takes limit (inside n m closed []) (clause_numbers c ++ words_of clause_numbers more) (inside n m l [])) whole
      (takes_append (takes_clause closed (omega (arith, l, length-append closed (c ∷ more))) c g.0 first)
      (takes_clauses (closed ++ (c ∷ [])) more (subst (λ (l : List Rule). length l ≤ m) (sym whole) l) g.1 all))

  -- the entries of a clause that is not closed, where there are any
  takes_open : (closed : List Rule) (entries : Rule) → ClausesInRange n m closed entries → sheet_length (inside n m closed entries) ≤ limit
      → Takes limit (inside n m closed []) (words_of entry_words entries) (inside n m closed entries)
  unfolding words_of
  takes_open closed [] r fits = none
  takes_open closed (e ∷ es) r fits = takes_entries closed (r.last (omega arith)) [] (e ∷ es) r.unclosed.width r.unclosed.named fits

pub stage_takes : (limit : ℕ) (s : Stage) → InRange s → sheet_length s ≤ limit → Takes limit variables (numbers_to s) s
unfolding numbers_to
stage_takes limit variables r fits = none
stage_takes limit (clauses n) r fits = one (clauses n) (variable_count r) fits none
stage_takes limit (inside n m closed entries) r fits =
    let closes : sheet_length (inside n m closed []) ≤ limit = omega (arith, grows_entries n m closed [] entries, fits) in
    one (clauses n) (variable_count r.devices) (omega (arith, grows_counts n m closed entries, fits))
    (one (inside n m [] []) (clause_count r.count) (omega (arith, grows_closed n m [] closed, closes))
    (takes_append (takes_clauses limit n m [] closed r.declared r.good closes) (takes_open limit n m closed entries r fits)))
