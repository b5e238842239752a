-- What is told of a reading that goes on, by what is told of its parts.
--
-- In order: a part, and what comes after it (`go_on`); a run of readings (`run_step`, `run_done`); a word (`word_step`); costs
-- (`costs_whole`, `costs_step`, `costs_done`), a rule and its entries (`rule_step`, `entries_step`, `entries_done`), rules
-- (`rules_whole`, `rules_step`, `rules_done`). Each law has on its left what the goals have, so that check.rt need but name the sets of
-- laws. Assumes nothing.
use mathlib.Core.Path.{◌≡◌, refl}
use mathlib.Core.List.{List, ◌∷◌}
use mathlib.Core.Option.{Option, none, some}
use Prim.Native.Nat.{ℕ, zero, suc, ◌+◌, ◌-◌, ◌≤◌, ◌<◌}
use native.Mathlib.Nat.{sub-zero}
use native.Mathlib.Numerals.{sub-one, add-one}
use native.Mathlib.Omega.{arith}
use lib.ListN.{get_elem?}
use lib.IntN.{ℤ}
use Rattle.std.specs.Prelude.{Result, Ok, Err}
use Rattle.hall.specs.Reading.{Fault, bad_cost, bad_entry, bad_width, Read, bad, got, Reader, then, ◌>>=◌, yield, as_read, at_word, word, up_to, as_entry, times, cost, entry, rule, all_rules}
use Rattle.refusals.specs.declared.Refusal.{Refusal}
use Rattle.refusals.specs.declared.Refused.{Refused}
use Rattle.sheet.specs.Coded.{entry_code}
use Rattle.sheet.specs.Check.{told, count_of, code_of, step_of}

-- ── a part, and what comes after it ──
abbrev pub go_on : {A B : Type 0} → Result A (Refused Refusal) → (A → Result B (Refused Refusal)) → Result B (Refused Refusal)
go_on (Err e) rest = Err e
go_on (Ok a) rest = rest a

-- ── a run of readings ──
-- a run is its first reading, and then the rest of it. The first of so many is told that one fewer come after it
run_step : {A : Type 0} (r : ℕ → Reader A) (ws : List ℤ) (place left : ℕ) → 0 < left
    → step_of (times left r ws place) ≡ go_on (step_of (r (left - 1) ws place)) (λ next. step_of (times (left - 1) r ws next))
unfolding times
run_step r ws place zero more = absurd (omega arith)
run_step {A} r ws place (suc left) more = rw sub-one (go (r left ws place))
  where
    rest : (a : A) (x : Read (List A)) → step_of (then x (λ m. yield (a ∷ m)) ws) ≡ step_of x
    rest a (bad f p) = refl
    rest a (got m p) = refl

    go : (x : Read A) → step_of (then x (λ a. times left r >>= λ m. yield (a ∷ m)) ws) ≡ go_on (step_of x) (λ next. step_of (times left r ws next))
    go (bad f p) = refl
    go (got a p) = rest a (times left r ws p)

run_done : {A : Type 0} (r : ℕ → Reader A) (ws : List ℤ) (place left : ℕ) → left ≡ 0 → step_of (times left r ws place) ≡ Ok place
unfolding times
run_done r ws place left e = rw e

-- ── single words ──
-- the place behind a word, whatever else is told of it
word_step : {A B : Type 0} (f : Fault) (value : ℤ → Option A) (tell : A → ℕ → B) (ws : List ℤ) (i : ℕ) → step_of (word f value ws i) ≡ go_on (told tell (word f value ws i)) (λ b. Ok (i + 1))
word_step {A} f value tell ws i = go (get_elem? ws i)
  where
    by : (x : Option A) → step_of (as_read f i x) ≡ go_on (told tell (as_read f i x)) (λ b. Ok (i + 1))
    by none = refl
    by (some a) = rw add-one refl

    go : (o : Option ℤ) → step_of (at_word f value ws i o) ≡ go_on (told tell (at_word f value ws i o)) (λ b. Ok (i + 1))
    go none = refl
    go (some w) = by (value w)

-- what is told of so many costs, of so many entries, and of the rules behind so many, from a place on
unfoldable pub costs_told : (left : ℕ) → List ℤ → (place : ℕ) → Result ℕ (Refused Refusal)
costs_told left ws place = step_of (times left (λ k. cost) ws place)

unfoldable pub entries_told : (n left : ℕ) → List ℤ → (place : ℕ) → Result ℕ (Refused Refusal)
entries_told n left ws place = step_of (times left (λ k. entry n) ws place)

unfoldable pub rules_told : (n m r : ℕ) → List ℤ → (place : ℕ) → Result ℕ (Refused Refusal)
rules_told n m r ws place = step_of (times (m - r) (λ k. rule n (m - k)) ws place)

-- ── costs ──
pub costs_whole : (n : ℕ) (ws : List ℤ) (at : ℕ) → step_of (times n (λ k. cost) ws at) ≡ costs_told n ws at
unfolding costs_told
costs_whole n ws at = refl

pub costs_step : (left : ℕ) (ws : List ℤ) (place : ℕ) → 0 < left
    → costs_told left ws place ≡ go_on (go_on (count_of (cost ws place)) (λ n. Ok (place + 1))) (λ next. costs_told (left - 1) ws next)
unfolding costs_told
costs_step left ws place more = rw (run_step (λ k. cost) ws place left more, word_step bad_cost (up_to 1000000000) (λ n next. n) ws place)

pub costs_done : (left : ℕ) (ws : List ℤ) (place : ℕ) → left ≡ 0 → costs_told left ws place ≡ Ok place
unfolding costs_told
costs_done left ws place e = run_done (λ k. cost) ws place left e

pub ruleset costs_laws = (costs_whole, costs_step, costs_done)

-- ── a rule ──
-- it is its width, and then so many entries
pub rule_step : (n number : ℕ) (ws : List ℤ) (i : ℕ) → step_of (rule n number ws i) ≡ go_on (count_of (word (bad_width number) (up_to 32) ws i)) (λ width. entries_told n width ws (i + 1))
unfolding rule entries_told
rule_step n number ws i = go (get_elem? ws i)
  where
    by : (x : Option ℕ) → step_of (then (as_read (bad_width number) i x) (λ width. times width (λ k. entry n)) ws) ≡ go_on (count_of (as_read (bad_width number) i x)) (λ width. step_of (times width (λ k. entry n) ws (i + 1)))
    by none = refl
    by (some width) = rw add-one refl

    go : (o : Option ℤ) → step_of (then (at_word (bad_width number) (up_to 32) ws i o) (λ width. times width (λ k. entry n)) ws) ≡ go_on (count_of (at_word (bad_width number) (up_to 32) ws i o)) (λ width. step_of (times width (λ k. entry n) ws (i + 1)))
    go none = refl
    go (some w) = by (up_to 32 w)

pub entries_step : (n left : ℕ) (ws : List ℤ) (place : ℕ) → 0 < left
    → entries_told n left ws place ≡ go_on (go_on (code_of (entry n ws place)) (λ c. Ok (place + 1))) (λ next. entries_told n (left - 1) ws next)
unfolding entries_told
entries_step n left ws place more = rw (run_step (λ k. entry n) ws place left more, word_step bad_entry (as_entry n) (λ e next. entry_code e) ws place)

pub entries_done : (n left : ℕ) (ws : List ℤ) (place : ℕ) → left ≡ 0 → entries_told n left ws place ≡ Ok place
unfolding entries_told
entries_done n left ws place e = run_done (λ k. entry n) ws place left e

pub ruleset rule_laws = (rule_step, entries_step, entries_done)

-- ── rules ──
pub rules_whole : (n m : ℕ) (ws : List ℤ) (at : ℕ) → step_of (all_rules n m ws at) ≡ rules_told n m 0 ws at
unfolding all_rules rules_told
rules_whole n m ws at = rw sub-zero refl

pub rules_step : (n m r : ℕ) (ws : List ℤ) (place : ℕ) → r < m → rules_told n m r ws place ≡ go_on (step_of (rule n (r + 1) ws place)) (λ next. rules_told n m (r + 1) ws next)
unfolding rules_told
rules_step n m r ws place more =
    let number : m - (m - r - 1) ≡ r + 1 = omega arith in
    let less : m - r - 1 ≡ m - (r + 1) = omega arith in
    rw (run_step (λ k. rule n (m - k)) ws place (m - r) (omega arith), number) (simp less)

pub rules_done : (n m r : ℕ) (ws : List ℤ) (place : ℕ) → m ≤ r → rules_told n m r ws place ≡ Ok place
unfolding rules_told
rules_done n m r ws place l = run_done (λ k. rule n (m - k)) ws place (m - r) (omega arith)

pub ruleset rules_laws = (rules_whole, rules_step, rules_done)
