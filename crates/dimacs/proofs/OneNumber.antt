-- One number: it leads to the next stage, or it has a flaw.
--
-- In order: the flaws of a number (`Flawed`); what taking a number comes to (`Taken`, `taking`), and that it comes to nothing else
-- (`leads_taken`, `flawed_taken`); the stage that a number leads to is within the limits (`leads_range`), and the numbers up to it are those
-- before and this one (`leads_numbers`). Assumes nothing.
use mathlib.Core.Path.{◌≡◌, refl, sym, ◌∙◌, ap}
use mathlib.Core.Bool.{Bool, true, false}
use mathlib.Core.List.{List, [], ◌∷◌, ◌++◌, append_assoc, append-nil}
use mathlib.Core.Option.{none}
use Prim.Native.Nat.{ℕ, zero, suc, ◌≤◌, ◌<◌}
use native.Mathlib.Omega.{arith}
use lib.ListN.{length, length-append}
use lib.IntN.{ℤ, pos, negsuc}
use lib.Dec.{leb, ltb}
use borrow.Author.Tests.{leb-true, leb-false, ltb-true, ltb-false, le-leb, lt-leb, lt-ltb, le-ltb}
use Rattle.lists.proofs.Each.{each_append}
use Rattle.hall.specs.Hall.{Entry, at1, at0, device, Rule}
use Rattle.hall.specs.Ranges.{RuleInRange, words_of, entry_words}
use Rattle.hall.specs.Reading.{only_if, up_to}
use Rattle.hall.specs.Due.{size, from_zero_to}
use Rattle.hall.proofs.Words.{words_append, words_one}
use Rattle.refusals.specs.declared.Refusal.TheVariants.{BadDeviceCount, BadEntry, BadRuleCount, BadWidth}
use Rattle.dimacs.specs.declared.Flaw.{Flaw}
use Rattle.dimacs.specs.declared.Flaw.TheVariants.{Sheet, ExtraToken}
use Rattle.dimacs.specs.Stage.{Stage, variables, clauses, inside}
use Rattle.dimacs.specs.File.{Step, flaw, on, count_step, widened, entered, in_clause, behind_by, taken}
use Rattle.dimacs.specs.Standing.{clause_numbers, numbers_to, ClausesInRange, InRange}
use Rattle.dimacs.specs.Reasons.{Leads, variable_count, clause_count, entry, close}
use Rattle.dimacs.proofs.CountsRead.{due_flawed, variables_due, clauses_due, devices_taken, clauses_taken}

-- ── what taking a number comes to ──
pub data Flawed : Stage → ℤ → Flaw → Type 0 where
  device_count : {z : ℤ} → from_zero_to 200 z ≡ false → Flawed variables z (Sheet BadDeviceCount)
  rule_count : {n : ℕ} {z : ℤ} → from_zero_to 2000 z ≡ false → Flawed (clauses n) z (Sheet BadRuleCount)
  unnamed : {n m : ℕ} {closed : List Rule} {entries : Rule} {z : ℤ} → length closed < m → n < size z
      → Flawed (inside n m closed entries) z (Sheet BadEntry)
  overfull : {n m : ℕ} {closed : List Rule} {entries : Rule} {z : ℤ} → length closed < m → 1 ≤ size z → size z ≤ n → length entries ≡ 32
      → Flawed (inside n m closed entries) z (Sheet (BadWidth (suc (length closed))))
  behind_last : {n m : ℕ} {closed : List Rule} {entries : Rule} {z : ℤ} → length closed ≡ m → Flawed (inside n m closed entries) z ExtraToken

abbrev pub Taken : Stage → ℤ → Step → Type 0
Taken s z (flaw f) = Flawed s z f
Taken s z (on next) = Leads s z next

module _ (n m : ℕ) (closed : List Rule) (entries : Rule) (r : ClausesInRange n m closed entries) where
  -- an entry in a declared clause: its device is one of the hall's or none, and there is room for it or none
  entry_takes : length closed < m → (e : Entry) (z : ℤ) → entry_words e ≡ z ∷ [] → size z ≡ suc (device e)
      → Taken (inside n m closed entries) z (entered n m closed entries (only_if (ltb (device e) n) e))
  entry_takes d e z w k = go (ltb (device e) n) refl
    where
      wide : device e < n → (t : Bool) → ltb (length entries) 32 ≡ t → Taken (inside n m closed entries) z (widened t n m closed entries e)
      wide h true u = entry e d w h (ltb-true (length entries) 32 u)
      wide h false u =
          let full : length entries ≡ 32 = omega (arith, ltb-false (length entries) 32 u, r.unclosed.width) in
          let some : 1 ≤ size z = omega arith in
          let named : size z ≤ n = omega arith in
          overfull d some named full

      go : (t : Bool) → ltb (device e) n ≡ t → Taken (inside n m closed entries) z (entered n m closed entries (only_if t e))
      go true u = wide (ltb-true (device e) n u) (ltb (length entries) 32) refl
      go false u = let none : n < size z = omega (arith, ltb-false (device e) n u) in unnamed d none

  in_clause_lem : length closed < m → (z : ℤ) → Taken (inside n m closed entries) z (in_clause n m closed entries z)
  in_clause_lem d (pos zero) = close d
  in_clause_lem d (pos (suc v)) = entry_takes d (at1 v) (pos (suc v)) refl refl
  in_clause_lem d (negsuc v) = entry_takes d (at0 v) (negsuc v) refl refl

  inside_takes : (z : ℤ) → Taken (inside n m closed entries) z (behind_by (leb m (length closed)) n m closed entries z)
  inside_takes z = go (leb m (length closed)) refl
    where
      go : (t : Bool) → leb m (length closed) ≡ t → Taken (inside n m closed entries) z (behind_by t n m closed entries z)
      go true e = let all : length closed ≡ m = omega (arith, leb-true m (length closed) e, r.declared) in behind_last all
      go false e = in_clause_lem (leb-false m (length closed) e) z

pub taking : (s : Stage) → InRange s → (z : ℤ) → Taken s z (taken s z)
unfolding taken
taking variables r (pos k) = go (leb k 200) refl
  where
    go : (t : Bool) → leb k 200 ≡ t → Taken variables (pos k) (count_step BadDeviceCount clauses (only_if t k))
    go true e = variable_count (leb-true k 200 e)
    go false e = device_count e
taking variables r (negsuc k) = device_count refl
taking (clauses n) r (pos k) = go (leb k 2000) refl
  where
    go : (t : Bool) → leb k 2000 ≡ t → Taken (clauses n) (pos k) (count_step BadRuleCount (λ m. inside n m [] []) (only_if t k))
    go true e = clause_count (leb-true k 2000 e)
    go false e = rule_count e
taking (clauses n) r (negsuc k) = rule_count refl
taking (inside n m closed entries) r z = inside_takes n m closed entries r z

-- ── and only that ──
pub leads_taken : {s : Stage} {z : ℤ} {next : Stage} → Leads s z next → taken s z ≡ on next
unfolding taken
leads_taken (variable_count {n} h) = devices_taken n h
leads_taken (clause_count {n} {m} h) = clauses_taken n m h
leads_taken (entry {n} {m} {closed} {entries} {z} e h w d l) = go e z w d
  where
    go : (e : Entry) (z : ℤ) → entry_words e ≡ z ∷ [] → device e < n → taken (inside n m closed entries) z ≡ on (inside n m closed (entries ++ (e ∷ [])))
    go (at1 v) z w d =
        let q : z ≡ pos (suc v) = cc in
        rw (q, lt-leb m (length closed) h, lt-ltb v n d, lt-ltb (length entries) 32 l)
    go (at0 v) z w d =
        let q : z ≡ negsuc v = cc in
        rw (q, lt-leb m (length closed) h, lt-ltb v n d, lt-ltb (length entries) 32 l)
leads_taken (close {n} {m} {closed} {entries} h) = rw (lt-leb m (length closed) h)

up_to_none : (most : ℕ) (z : ℤ) → from_zero_to most z ≡ false → up_to most z ≡ none
up_to_none most (pos n) e = rw e
up_to_none most (negsuc n) e = refl

module _ (n m : ℕ) (closed : List Rule) (entries : Rule) (h : length closed < m) where
  unnamed_taken : (z : ℤ) → n < size z → taken (inside n m closed entries) z ≡ flaw (Sheet BadEntry)
  unfolding taken
  unnamed_taken (pos zero) o = absurd (omega arith)
  unnamed_taken (pos (suc v)) o = rw (lt-leb m (length closed) h, le-ltb v n (omega arith))
  unnamed_taken (negsuc v) o = rw (lt-leb m (length closed) h, le-ltb v n (omega arith))

  overfull_taken : (z : ℤ) → 1 ≤ size z → size z ≤ n → length entries ≡ 32
      → taken (inside n m closed entries) z ≡ flaw (Sheet (BadWidth (suc (length closed))))
  unfolding taken
  overfull_taken (pos zero) s o w = absurd (omega arith)
  overfull_taken (pos (suc v)) s o w = rw (lt-leb m (length closed) h, lt-ltb v n (omega arith), le-ltb (length entries) 32 (omega arith))
  overfull_taken (negsuc v) s o w = rw (lt-leb m (length closed) h, lt-ltb v n (omega arith), le-ltb (length entries) 32 (omega arith))

pub flawed_taken : {s : Stage} {z : ℤ} {f : Flaw} → Flawed s z f → taken s z ≡ flaw f
unfolding taken
flawed_taken (device_count {z} e) = due_flawed variables_due z (up_to_none 200 z e)
flawed_taken (rule_count {n} {z} e) = due_flawed (clauses_due n) z (up_to_none 2000 z e)
flawed_taken (unnamed {n} {m} {closed} {entries} {z} h o) = unnamed_taken n m closed entries h z o
flawed_taken (overfull {n} {m} {closed} {entries} {z} h s o w) = overfull_taken n m closed entries h z s o w
flawed_taken (behind_last {n} {m} {closed} {entries} {z} all) = rw (le-leb m (length closed) (omega arith))

-- ── the next stage ──
pub leads_range : {s next : Stage} {z : ℤ} → InRange s → Leads s z next → InRange next
leads_range r (variable_count h) = h
leads_range r (clause_count h) = record {
  devices = r;
  count = h;
  declared = omega arith;
  good = tt;
  unclosed = record { width = omega arith; named = tt };
  last = λ some. absurd (omega arith);
}
leads_range r (entry {n} {m} {closed} {entries} e d w named few) = record {
  devices = r.devices;
  count = r.count;
  declared = r.declared;
  good = r.good;
  unclosed = record {
    width = omega (arith, length-append entries (e ∷ []));
    named = each_append (λ (e : Entry). device e < n) entries (e ∷ []) r.unclosed.named (named, tt);
  };
  last = λ some. d;
}
leads_range r (close {n} {m} {closed} {entries} d) = record {
  devices = r.devices;
  count = r.count;
  declared = omega (arith, length-append closed (entries ∷ []));
  good = each_append (RuleInRange n) closed (entries ∷ []) r.good (r.unclosed, tt);
  unclosed = record { width = omega arith; named = tt };
  last = λ some. absurd (omega arith);
}

-- one entry more; one clause more
entry_more : (closed : List ℤ) (entries : Rule) (e : Entry) {z : ℤ} → entry_words e ≡ z ∷ []
    → closed ++ words_of entry_words (entries ++ (e ∷ [])) ≡ (closed ++ words_of entry_words entries) ++ (z ∷ [])
entry_more closed entries e {z} w =
    ap (λ (ws : List ℤ). closed ++ ws)
    (words_append entry_words entries (e ∷ [])
    ∙ ap (λ (ws : List ℤ). words_of entry_words entries ++ ws) (words_one entry_words e ∙ w))
    ∙ sym (append_assoc closed (words_of entry_words entries) (z ∷ []))

clause_more : (closed : List Rule) (entries : Rule)
    → words_of clause_numbers (closed ++ (entries ∷ [])) ++ words_of entry_words [] ≡ (words_of clause_numbers closed ++ words_of entry_words entries) ++ (pos 0 ∷ [])
unfolding words_of
clause_more closed entries =
    append-nil (words_of clause_numbers (closed ++ (entries ∷ [])))
    ∙ words_append clause_numbers closed (entries ∷ [])
    ∙ ap (λ (ws : List ℤ). words_of clause_numbers closed ++ ws) (words_one clause_numbers entries)
    ∙ sym (append_assoc (words_of clause_numbers closed) (words_of entry_words entries) (pos 0 ∷ []))

pub leads_numbers : {s next : Stage} {z : ℤ} → Leads s z next → numbers_to next ≡ numbers_to s ++ (z ∷ [])
unfolding numbers_to words_of
leads_numbers (variable_count h) = refl
leads_numbers (clause_count h) = refl
leads_numbers (entry {n} {m} {closed} {entries} e d w named few) =
    ap (λ (ws : List ℤ). pos n ∷ pos m ∷ ws) (entry_more (words_of clause_numbers closed) entries e w)
leads_numbers (close {n} {m} {closed} {entries} d) = ap (λ (ws : List ℤ). pos n ∷ pos m ∷ ws) (clause_more closed entries)
