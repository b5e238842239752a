-- The two counts, as the code reads them.
--
-- In order: a count that is due (`due_taken`, `due_flawed`), as it is read (`count_none`, `count_mistaken`, `count_is`,
-- `count_outside`); the two stages at which a count is due (`variables_due`, `clauses_due`) and where their counts lead
-- (`devices_taken`, `clauses_taken`); both counts (`counts_first`, `counts_full`, `counts_second`, `counts_over`, `counts_are`).
-- Assumes nothing.
use mathlib.Core.Path.{◌≡◌, refl, ◌∙◌, ap}
use mathlib.Core.Bool.{Bool}
use mathlib.Core.List.{List, []}
use mathlib.Core.Option.{none}
use Prim.Native.Nat.{ℕ, ◌+◌, ◌≤◌, ◌<◌}
use native.Mathlib.Omega.{arith}
use lib.ListN.{length}
use lib.IntN.{ℤ, pos}
use borrow.Author.Tests.{le-leb}
use Rattle.std.proofs.Common.{Some, None, Ok, Err}
use Rattle.refusals.specs.declared.Refused.{Refused}
use Rattle.hall.specs.Reading.{up_to, only_if}
use Rattle.refusals.specs.declared.Refusal.{Refusal}
use Rattle.refusals.specs.declared.Refusal.TheVariants.{BadDeviceCount, BadRuleCount}
use Rattle.typed.specs.Text.{got, tokens_at}
use Rattle.typed.specs.Next.{next_of}
use Rattle.typed.specs.declared.Mistake.TheVariants.{NoRoom}
use Rattle.typed.specs.declared.Found.{Found}
use Rattle.typed.proofs.Splitting.{next_end, next_found}
use Rattle.dimacs.specs.declared.Flaw.{Flaw}
use Rattle.dimacs.specs.declared.Flaw.TheVariants.{Text, Sheet, NoHeader}
use Rattle.dimacs.specs.Stage.{Stage, variables, clauses, inside}
use Rattle.dimacs.specs.File.{refused, count_step, on, flaw, taken, read_numbers}
use Rattle.dimacs.specs.Steps.{flawed, CountFound, CountDue, CountIs, CountsFound, CountsAre}
use Rattle.dimacs.proofs.SoFar.{devices_long, counts_long}
use Rattle.dimacs.proofs.Stepping.{numbers_end, flawed_ok, numbers_mistaken, found_flaw, found_on, found_full}

-- ── one count ──
module _ {most : ℕ} {kind : Refusal} {s : Stage} (due : CountDue most kind s) where
  due_taken : {n : ℕ} → n ≤ most → taken s (pos n) ≡ on (due.next n)
  due_taken {n} l = due.takes (pos n) ∙ ap (λ (b : Bool). count_step kind due.next (only_if b n)) (le-leb n most l)

  pub due_flawed : (z : ℤ) → up_to most z ≡ none → taken s z ≡ flaw (Sheet kind)
  due_flawed z q = due.takes z ∙ ap (count_step kind due.next) q

module _ (text : List ℕ) (from most : ℕ) (kind : Refusal) where
  pub count_none : Ok None ≡ flawed (next_of (tokens_at text from)) → CountIs text from most kind (Err (record { kind = NoHeader; place = length text }))
  count_none e s due limit =
      ap (read_numbers limit (length text) s) (next_end text from (flawed_ok e)) ∙ numbers_end limit (length text) s ∙ due.ends (length text)

  pub count_mistaken : (r : Refused Flaw) → Err r ≡ flawed (next_of (tokens_at text from)) → CountIs text from most kind (Err r)
  count_mistaken r e s due limit = numbers_mistaken text from limit s e

  module _ {f : Found} (e : Ok (Some f) ≡ flawed (next_of (tokens_at text from))) where
    pub count_is : {v : ℕ} → f.word ≡ pos v → v ≤ most → CountIs text from most kind (Ok (record { number = v; start = f.start; end = f.end }))
    count_is q l =
        let w = next_found text from (flawed_ok e) in
        record { token = w.token; first = w.first; says = w.says ∙ ap got q; place = w.place; small = l }

    pub count_outside : up_to most f.word ≡ none → CountIs text from most kind (Err (record { kind = Sheet kind; place = f.start }))
    count_outside q s due limit =
        let w = next_found text from (flawed_ok e) in
        found_flaw text _ _ w.first w.says limit s (Sheet kind) (due_flawed due f.word q) ∙ ap (refused (Sheet kind)) w.place

-- ── the two stages ──
pub variables_due : CountDue 200 BadDeviceCount variables
unfolding taken
variables_due = record { next = clauses; takes = λ z. refl; ends = λ end. refl }

pub clauses_due : (n : ℕ) → CountDue 2000 BadRuleCount (clauses n)
unfolding taken
clauses_due n = record { next = λ m. inside n m [] []; takes = λ z. refl; ends = λ end. refl }

pub devices_taken : (n : ℕ) → n ≤ 200 → taken variables (pos n) ≡ on (clauses n)
unfolding variables_due
devices_taken n l = due_taken variables_due l

pub clauses_taken : (n m : ℕ) → m ≤ 2000 → taken (clauses n) (pos m) ≡ on (inside n m [] [])
unfolding clauses_due
clauses_taken n m l = due_taken (clauses_due n) l

-- ── both counts ──
module _ (text : List ℕ) (from limit : ℕ) where
  pub counts_first : (r : Refused Flaw) → CountIs text from 200 BadDeviceCount (Err r) → CountsAre text from limit (Err r)
  counts_first r c = c variables variables_due limit

  module _ {n first next : ℕ} (f : CountFound text from 200 n first next) where
    pub counts_full : limit < n + 1 → CountsAre text from limit (Err (record { kind = Text NoRoom; place = first }))
    counts_full l =
        found_full text _ _ f.first f.says limit variables (clauses n) (devices_taken n f.small) (omega (arith, devices_long n))
        ∙ ap (refused (Text NoRoom)) f.place

    module _ (l : n + 1 ≤ limit) where
      behind_first : read_numbers limit (length text) variables (tokens_at text from) ≡ read_numbers limit (length text) (clauses n) (tokens_at text next)
      behind_first = found_on text _ _ f.first f.says limit variables (clauses n) (devices_taken n f.small) (omega (arith, devices_long n))

      pub counts_second : (r : Refused Flaw) → CountIs text next 2000 BadRuleCount (Err r) → CountsAre text from limit (Err r)
      counts_second r c = behind_first ∙ c (clauses n) (clauses_due n) limit

      module _ {m second end : ℕ} (g : CountFound text next 2000 m second end) where
        pub counts_over : limit < n + 2 → CountsAre text from limit (Err (record { kind = Text NoRoom; place = second }))
        counts_over k =
            behind_first
            ∙ found_full text _ _ g.first g.says limit (clauses n) (inside n m [] []) (clauses_taken n m g.small) (omega (arith, counts_long n m))
            ∙ ap (refused (Text NoRoom)) g.place

        pub counts_are : n + 2 ≤ limit → CountsFound text from limit n m end
        counts_are k = record {
          rest =
              behind_first
              ∙ found_on text _ _ g.first g.says limit (clauses n) (inside n m [] []) (clauses_taken n m g.small) (omega (arith, counts_long n m));
          fits = k;
        }
