-- The second pass over the clauses: the rules written so far stand in front of the room, and what is left is read without a flaw.
--
-- In order: what the loop knows (`Filling`), at its start (`filling_start`), at its end (`filling_end`), that it meets no flaw
-- (`filling_never`, `filling_reads`, `filling_outside`); what a number does (`filling_zero`, `filling_device`) and needs (`close_room`, `entry_room`), and
-- the loop with one number more (`filling_closes`, `filling_enters`). Assumes nothing.
use mathlib.Core.Path.{◌≡◌, refl, sym, ◌∙◌, ap}
use mathlib.Core.Bool.{Bool, true, false, cond}
use mathlib.Core.List.{List, [], ◌∷◌, ◌++◌, append-nil}
use Prim.Native.Nat.{ℕ, zero, suc, ◌+◌, ◌≤◌, ◌<◌}
use native.Mathlib.Omega.{arith}
use lib.ListN.{length, get_or, drop, set, length-append, take-append-drop}
use lib.IntN.{ℤ, pos}
use lib.Dec.{leb, ltb}
use borrow.Author.Tests.{ltb-false}
use Rattle.std.specs.Result.{IsOk}
use Rattle.std.proofs.Common.{Option, Some, None, Result, Ok, Err}
use Rattle.refusals.specs.declared.Refused.{Refused}
use Rattle.lists.specs.Lists.{in_front}
use Rattle.hall.specs.Hall.{Rule, Hall}
use Rattle.hall.specs.Ranges.{rule_words, words}
use Rattle.refusals.specs.declared.Refusal.TheVariants.{BadEntry, BadWidth}
use Rattle.typed.specs.Text.{tokens_at}
use Rattle.typed.specs.Next.{next_of}
use Rattle.typed.specs.declared.Mistake.{Mistake}
use Rattle.typed.specs.declared.Found.{Found}
use Rattle.typed.proofs.Splitting.{FoundWord, next_end, next_found, next_bad}
use Rattle.dimacs.specs.declared.Flaw.{Flaw}
use Rattle.dimacs.specs.declared.Flaw.TheVariants.{Sheet, NotClosed, ExtraToken}
use Rattle.dimacs.specs.declared.clauses.Named.{Named}
use Rattle.dimacs.specs.declared.clauses.Named.TheVariants.{Zero, Device, Outside}
use Rattle.dimacs.specs.declared.clauses.Judged.{Judged}
use Rattle.dimacs.specs.declared.clauses.Judged.TheVariants.{Closes, Enters}
use Rattle.dimacs.specs.Stage.{inside, unit_hall}
use Rattle.dimacs.specs.File.{Parsed, refused, file, limit_of, read_numbers}
use Rattle.dimacs.specs.Contract.{room_after}
use Rattle.dimacs.specs.Steps.{named_of, room_for, judged_by, FillFits}
use Rattle.dimacs.proofs.Limits.{limit_holds}
use Rattle.dimacs.proofs.SoFar.{closed_words, rule_long, closed_more, close_long, enter_long, all_closed, counts_long, hall_words}
use Rattle.dimacs.proofs.Stepping.{numbers_end, numbers_bad, found_on}
use Rattle.dimacs.proofs.Scanning.{Closing, Entering, Does, does}
use Rattle.dimacs.proofs.Putting.{open_as, width_written, entry_written}

-- the rules written so far, behind which the clauses that are left are read without a flaw
pub record Filling (text : List ℕ) (from n m : ℕ) (before : List ℤ) (at width head : ℕ) (now : List ℤ) : Type 0 where
  pub fits : FillFits text from n m before
  pub rules : List Rule
  pub entries : Rule
  pub wide : width ≡ length entries
  pub size : head ≡ length (closed_words n m rules)
  pub narrow : width ≤ 32
  pub last : 1 ≤ width → length rules < m
  pub short : head ≤ 16384
  pub few : length rules ≤ m
  pub rest :
      read_numbers (limit_of (length before)) (length text) (inside n m rules entries) (tokens_at text at) ≡ file fits.hall
  pub stands : now ≡ in_front (closed_words n m rules ++ open_as (get_or before head (pos 0)) entries) before

limit_room : (room : ℕ) → limit_of room ≤ room
limit_room room = ((limit_holds room (limit_of room)).0 (omega arith)).0

pub filling_start : {text : List ℕ} {from n m : ℕ} {before : List ℤ} → FillFits text from n m before → Filling text from n m before from 0 (n + 2) before
filling_start {text} {from} {n} {m} {before} f =
    let long : length (closed_words n m []) ≡ n + 2 = sym (ap length (all_closed n m [])) ∙ counts_long n m in
    record {
      fits = f;
      rules = [];
      entries = [];
      wide = refl;
      size = sym long;
      narrow = omega arith;
      last = λ h. absurd (omega arith);
      short = omega (arith, f.scan.fits, f.scan.short);
      few = omega arith;
      rest = f.read;
      stands =
          sym (take-append-drop (n + 2) before)
          ∙ ap (λ (l : List ℤ). l ++ drop (n + 2) before) (f.counts ∙ all_closed n m [])
          ∙ ap (λ (k : ℕ). closed_words n m [] ++ drop k before) (sym long)
          ∙ ap (λ (l : List ℤ). in_front l before) (sym (append-nil (closed_words n m [])));
    }

-- no file is refused
no_refusal : {A : Type 0} {f : Flaw} {place : ℕ} {h : Hall} → refused f place ≡ file h → A
no_refusal e = absurd (cc)

module _ {text : List ℕ} {from n m : ℕ} {before : List ℤ} {at width head : ℕ} {now : List ℤ} (g : Filling text from n m before at width head now) where
  pub filling_never : {A : Type 0} {r : Refused Mistake} → Err r ≡ next_of (tokens_at text at) → A
  filling_never {r = r} e =
      let f = next_bad text at e in
      no_refusal
      (sym
      (ap (read_numbers (limit_of (length before)) (length text) (inside n m g.rules g.entries)) f.first
      ∙ numbers_bad (limit_of (length before)) (length text) (inside n m g.rules g.entries) f.token f.rest r.kind r.place f.says)
      ∙ g.rest)

  pub filling_reads : {r : Result (Option Found) (Refused Mistake)} → r ≡ next_of (tokens_at text at) → IsOk r
  filling_reads {r = Ok o} e = refl
  filling_reads {r = Err m} e = filling_never e

  pub filling_end : Ok None ≡ next_of (tokens_at text at) → now ≡ room_after (read_numbers (limit_of (length before)) (length text) (inside n m [] []) (tokens_at text from)) before
  filling_end e =
      go (ltb (length g.rules) m) refl
      (sym
      (ap (read_numbers (limit_of (length before)) (length text) (inside n m g.rules g.entries)) (next_end text at e)
      ∙ numbers_end (limit_of (length before)) (length text) (inside n m g.rules g.entries))
      ∙ g.rest)
    where
      none_left : (k : ℕ) → (1 ≤ k → ⊥) → k ≡ 0
      none_left zero f = refl
      none_left (suc k) f = absurd (f (omega arith))

      still_open : 1 ≤ length g.entries → ltb (length g.rules) m ≡ false → ⊥
      still_open l t = let k = g.last (omega (arith, g.wide)) in omega (arith, k, ltb-false (length g.rules) m t)

      none_open : (entries : Rule) → length entries ≡ 0 → (x : ℤ) → open_as x entries ≡ []
      none_open [] l x = refl
      none_open (y ∷ es) l x = absurd (omega arith)

      go : (b : Bool) → ltb (length g.rules) m ≡ b
          → cond b (refused NotClosed (length text)) (file (unit_hall n g.rules)) ≡ file g.fits.hall
          → now ≡ room_after (read_numbers (limit_of (length before)) (length text) (inside n m [] []) (tokens_at text from)) before
      go true t q = no_refusal q
      go false t q =
          let all : m ≡ length g.rules = omega (arith, ltb-false (length g.rules) m t, g.few) in
          let closed : length g.entries ≡ 0 = none_left (length g.entries) (λ l. still_open l t) in
          let hall : unit_hall n g.rules ≡ g.fits.hall = cc in
          g.stands
          ∙ ap (λ (l : List ℤ). in_front (closed_words n m g.rules ++ l) before) (none_open g.entries closed (get_or before head (pos 0)))
          ∙ ap (λ (l : List ℤ). in_front l before)
          (append-nil (closed_words n m g.rules) ∙ ap (λ (k : ℕ). closed_words n k g.rules) all ∙ sym (hall_words n g.rules) ∙ ap words hall)
          ∙ sym (ap (λ (x : Parsed). room_after x before) g.fits.read)

  module _ {found : Found} (e : Ok (Some found) ≡ next_of (tokens_at text at)) where
    pub filling_word : FoundWord text at found
    filling_word = next_found text at e

    abbrev DoesHere : Result Judged Flaw → Type 0
    DoesHere = Does n m (limit_of (length before)) (length text) g.rules g.entries found.word

    -- a number that is refused is none of theirs
    refuses : {A : Type 0} {f : Flaw} → DoesHere (Err f) → A
    refuses d =
        let w = filling_word in
        no_refusal
        (sym
        (ap (read_numbers (limit_of (length before)) (length text) (inside n m g.rules g.entries)) w.first
        ∙ d w.token (tokens_at text found.end) w.says)
        ∙ g.rest)

    -- the code names what the machine reads back from the number's bits
    module _ {y : ℤ} (same : y ≡ found.word) {name : Named} (q : name ≡ named_of n y) where
      judged : {x : Named} → name ≡ x → (b : Bool) → leb m (length g.rules) ≡ b
          → DoesHere
          (cond b (Err ExtraToken)
          (judged_by (limit_of (length before)) (length g.rules) (length g.entries) (length (closed_words n m g.rules)) x))
      judged u b t = rw (← u, q, same, ← t) (does n m (limit_of (length before)) (length text) g.rules g.entries found.word)

      pub filling_outside : {A : Type 0} → name ≡ Outside → A
      filling_outside {A} u = go (leb m (length g.rules)) (judged u (leb m (length g.rules)) refl)
        where
          go : (b : Bool) → DoesHere (cond b (Err ExtraToken) (Err (Sheet BadEntry))) → A
          go true d = refuses d
          go false d = refuses d

      pub filling_zero : name ≡ Zero → Closing n m (limit_of (length before)) (length text) g.rules g.entries found.word
      filling_zero u = go (leb m (length g.rules)) (leb _ (limit_of (length before))) (judged u (leb m (length g.rules)) refl)
        where
          go : (b t : Bool) → DoesHere (cond b (Err ExtraToken) (room_for t Closes)) → Closing n m (limit_of (length before)) (length text) g.rules g.entries found.word
          go true t d = refuses d
          go false true d = d
          go false false d = refuses d

      pub filling_device : name ≡ Device → Entering n m (limit_of (length before)) (length text) g.rules g.entries found.word
      filling_device u =
          go (leb m (length g.rules)) (ltb (length g.entries) 32) (leb _ (limit_of (length before))) _ (judged u (leb m (length g.rules)) refl)
        where
          go : (b w t : Bool) (k : ℕ) → DoesHere (cond b (Err ExtraToken) (cond w (room_for t Enters) (Err (Sheet (BadWidth k)))))
              → Entering n m (limit_of (length before)) (length text) g.rules g.entries found.word
          go true w t k d = refuses d
          go false true true k d = d
          go false true false k d = refuses d
          go false false t k d = refuses d

      -- the room that a number needs is there
      pub close_room : name ≡ Zero → head + width + 1 ≤ length before
      close_room u = let d = filling_zero u in omega (arith, d.fits, g.size, g.wide, limit_room (length before))

      pub entry_room : name ≡ Device → head + width + 2 ≤ length before
      entry_room u = let d = filling_device u in omega (arith, d.fits, g.size, g.wide, limit_room (length before))

      pub filling_closes : name ≡ Zero → {v : ℤ} → v ≡ pos width → Filling text from n m before found.end 0 (head + (width + 1)) (set now head v)
      filling_closes u {v} p =
          let w = filling_word in
          let d = filling_zero u in
          let long : head + (width + 1) ≡ length (closed_words n m (g.rules ++ (g.entries ∷ []))) =
          omega
          (arith, g.size, g.wide, ap length (closed_more n m g.rules g.entries), length-append (closed_words n m g.rules) (rule_words g.entries), rule_long g.entries) in
          record {
            fits = g.fits;
            rules = g.rules ++ (g.entries ∷ []);
            entries = [];
            wide = refl;
            size = long;
            narrow = omega arith;
            last = λ l. absurd (omega arith);
            short = omega (arith, d.fits, g.size, g.wide, g.fits.scan.short);
            few = omega (arith, d.declared, length-append g.rules (g.entries ∷ []));
            rest =
                sym
                (found_on text _ _ w.first w.says (limit_of (length before)) (inside n m g.rules g.entries) _ d.takes (omega (arith, close_long n m g.rules g.entries, d.fits)))
                ∙ g.rest;
            stands =
                rw (g.stands, p, g.wide, g.size)
                (width_written (closed_words n m g.rules) before (omega (arith, g.size, close_room u)) g.entries
                ∙ ap (λ (l : List ℤ). in_front l before) (sym (append-nil (closed_words n m (g.rules ++ (g.entries ∷ []))) ∙ closed_more n m g.rules g.entries)));
          }

      pub filling_enters : name ≡ Device → {v : ℤ} → v ≡ found.word → Filling text from n m before found.end (width + 1) head (set now (head + width + 1) v)
      filling_enters u {v} p =
          let w = filling_word in
          let d = filling_device u in
          record {
            fits = g.fits;
            rules = g.rules;
            entries = g.entries ++ (d.e ∷ []);
            wide = omega (arith, g.wide, length-append g.entries (d.e ∷ []));
            size = g.size;
            narrow = omega (arith, g.wide, d.narrow);
            last = λ l. d.declared;
            short = g.short;
            few = g.few;
            rest =
                sym
                (found_on text _ _ w.first w.says (limit_of (length before)) (inside n m g.rules g.entries) _ d.takes (omega (arith, enter_long n m g.rules g.entries d.e, d.fits)))
                ∙ g.rest;
            stands =
                simp (g.stands, p, g.wide, g.size)
                (entry_written (closed_words n m g.rules) before (omega (arith, g.size, entry_room u)) g.entries d.e d.word (omega (arith, g.size, g.wide, entry_room u)));
          }
