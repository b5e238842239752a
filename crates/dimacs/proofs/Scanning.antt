-- The first pass over the clauses: what is left of the text, behind the clauses read so far, answers what all of them answer.
--
-- In order: what a number does to the clauses (`Does`, `does`);
-- what the loop knows (`Scanning`), at its start (`scanning_start`), at each of its ends (`scanning_missing`, `scanning_end`,
-- `scanning_bad`, `scanning_flaw`), and with one number more (`scanning_closes`, `scanning_enters`). Assumes nothing.
use mathlib.Core.Path.{◌≡◌, refl, sym, ◌∙◌, ap, subst}
use mathlib.Core.Bool.{Bool, true, false, cond}
use mathlib.Core.List.{List, [], ◌∷◌, ◌++◌}
use mathlib.Core.Option.{Option, none, some}
use Prim.Native.Nat.{ℕ, zero, suc, ◌+◌, ◌≤◌, ◌<◌}
use native.Mathlib.Omega.{arith}
use lib.ListN.{length, length-append}
use lib.IntN.{ℤ, pos, negsuc}
use lib.Dec.{leb, ltb}
use borrow.Author.Tests.{leb-true, leb-false, ltb-true, lt-ltb, le-ltb}
use Rattle.std.proofs.Common.{Some, None, Result, Ok, Err}
use Rattle.refusals.specs.declared.Refused.{Refused}
use Rattle.hall.specs.Hall.{Entry, at1, at0, Rule}
use Rattle.hall.specs.Ranges.{entry_words, rule_words}
use Rattle.hall.specs.Reading.{only_if, as_entry}
use Rattle.refusals.specs.declared.Refusal.TheVariants.{BadEntry, BadWidth}
use Rattle.typed.specs.Text.{got, Token, tokens_at, value_of}
use Rattle.typed.specs.Next.{next_of}
use Rattle.typed.specs.declared.Found.{Found}
use Rattle.typed.proofs.Splitting.{FoundWord, next_end, next_found}
use Rattle.dimacs.specs.declared.Flaw.{Flaw}
use Rattle.dimacs.specs.declared.Flaw.TheVariants.{Sheet, NotClosed, ExtraToken}
use Rattle.dimacs.specs.declared.clauses.Judged.{Judged}
use Rattle.dimacs.specs.declared.clauses.Judged.TheVariants.{Closes, Enters}
use Rattle.dimacs.specs.Stage.{inside, unit_hall}
use Rattle.dimacs.specs.File.{Parsed, refused, file, flaw, on, widened, entered, in_clause, behind_by, taken, ended_at, read_numbers}
use Rattle.dimacs.specs.Contract.{filed_of}
use Rattle.dimacs.specs.Steps.{flawed, named_by, named_of, room_for, judged_by, judged_of, ScanFits, Scans}
use Rattle.dimacs.proofs.Stepping.{numbers_end, numbers_flaw, numbers_full, flawed_ok, numbers_mistaken, found_on}
use Rattle.dimacs.proofs.SoFar.{closed_words, rule_long, closed_same, closed_counts, closed_more, close_long, enter_long, all_closed, counts_long, hall_words}

-- ── what a number does ──
module _ (n m limit end : ℕ) (rules : List Rule) (entries : Rule) (z : ℤ) where
  -- it closes the clause, and there is room
  pub record Closing : Type 0 where
    pub declared : length rules < m
    pub takes : taken (inside n m rules entries) z ≡ on (inside n m (rules ++ (entries ∷ [])) [])
    pub fits : length (closed_words n m rules) + length entries + 1 ≤ limit

  -- it enters the clause, as this entry, and there is room
  pub record Entering : Type 0 where
    pub declared : length rules < m
    pub e : Entry
    pub word : entry_words e ≡ z ∷ []
    pub takes : taken (inside n m rules entries) z ≡ on (inside n m rules (entries ++ (e ∷ [])))
    pub narrow : length entries < 32
    pub fits : length (closed_words n m rules) + length entries + 2 ≤ limit

  abbrev pub Does : Result Judged Flaw → Type 0
  Does (Err f) = (t : Token) (ts : List Token) → value_of t ≡ got z → read_numbers limit end (inside n m rules entries) (t ∷ ts) ≡ refused f t.place
  Does (Ok Closes) = Closing
  Does (Ok Enters) = Entering

  in_clause_lem : leb m (length rules) ≡ false → taken (inside n m rules entries) z ≡ in_clause n m rules entries z
  unfolding taken
  in_clause_lem t = ap (λ (b : Bool). behind_by b n m rules entries z) t

  extra : leb m (length rules) ≡ true → Does (Err ExtraToken)
  unfolding taken
  extra t x xs e = numbers_flaw limit end (inside n m rules entries) x xs z e ExtraToken (ap (λ (b : Bool). behind_by b n m rules entries z) t)

  module _ (t : leb m (length rules) ≡ false) where
    closes : in_clause n m rules entries z ≡ on (inside n m (rules ++ (entries ∷ [])) []) → (b : Bool) → leb (length (closed_words n m rules) + length entries + 1) limit ≡ b → Does (room_for b Closes)
    closes q true u = record { declared = leb-false m (length rules) t; takes = in_clause_lem t ∙ q; fits = leb-true _ limit u }
    closes q false u = λ x xs e.
        numbers_full limit end (inside n m rules entries) x xs z e (inside n m (rules ++ (entries ∷ [])) []) (in_clause_lem t ∙ q)
        (omega (arith, close_long n m rules entries, leb-false _ limit u))

    outside : in_clause n m rules entries z ≡ flaw (Sheet BadEntry) → Does (Err (Sheet BadEntry))
    outside q x xs e = numbers_flaw limit end (inside n m rules entries) x xs z e (Sheet BadEntry) (in_clause_lem t ∙ q)

    module _ (entry : Entry) (word : entry_words entry ≡ z ∷ []) (q : in_clause n m rules entries z ≡ entered n m rules entries (some entry)) where
      room_for_lem : length entries < 32 → in_clause n m rules entries z ≡ on (inside n m rules (entries ++ (entry ∷ []))) → (b : Bool)
          → leb (length (closed_words n m rules) + length entries + 2) limit ≡ b
          → Does (room_for b Enters)
      room_for_lem w p true u = record {
        declared = leb-false m (length rules) t;
        e = entry;
        word = word;
        takes = in_clause_lem t ∙ p;
        narrow = w;
        fits = leb-true _ limit u;
      }
      room_for_lem w p false u = λ x xs e.
          numbers_full limit end (inside n m rules entries) x xs z e (inside n m rules (entries ++ (entry ∷ []))) (in_clause_lem t ∙ p)
          (omega (arith, enter_long n m rules entries entry, leb-false _ limit u))

      enters : (w : Bool) → ltb (length entries) 32 ≡ w
          → Does
          (cond w (room_for (leb (length (closed_words n m rules) + length entries + 2) limit) Enters) (Err (Sheet (BadWidth (length rules + 1)))))
      enters true w =
          room_for_lem (ltb-true (length entries) 32 w) (q ∙ ap (λ (b : Bool). widened b n m rules entries entry) w)
          (leb (length (closed_words n m rules) + length entries + 2) limit)
          refl
      enters false w = λ x xs e.
          numbers_flaw limit end (inside n m rules entries) x xs z e (Sheet (BadWidth (suc (length rules))))
          (in_clause_lem t ∙ q ∙ ap (λ (b : Bool). widened b n m rules entries entry) w)
          ∙ ap (λ (k : ℕ). refused (Sheet (BadWidth k)) x.place) (omega arith)

    by_entry : (o : Option Entry) → ((e : Entry) → o ≡ some e → entry_words e ≡ z ∷ []) → in_clause n m rules entries z ≡ entered n m rules entries o
        → Does (judged_by limit (length rules) (length entries) (length (closed_words n m rules)) (named_by o))
    by_entry none word q = outside q
    by_entry (some e) word q = enters e (word e refl) q (ltb (length entries) 32) refl

-- the entry that a word is has that word
entry_word : (n : ℕ) (z : ℤ) (e : Entry) → as_entry n z ≡ some e → entry_words e ≡ z ∷ []
entry_word n (pos zero) e q = absurd (cc)
entry_word n (pos (suc v)) e q = go (ltb v n) q
  where
    go : (b : Bool) → only_if b (at1 v) ≡ some e → entry_words e ≡ pos (suc v) ∷ []
    go true q = let k : at1 v ≡ e = cc in ap entry_words (sym k)
    go false q = absurd (cc)
entry_word n (negsuc v) e q = go (ltb v n) q
  where
    go : (b : Bool) → only_if b (at0 v) ≡ some e → entry_words e ≡ negsuc v ∷ []
    go true q = let k : at0 v ≡ e = cc in ap entry_words (sym k)
    go false q = absurd (cc)

pub does : (n m limit end : ℕ) (rules : List Rule) (entries : Rule) (z : ℤ)
    → Does n m limit end rules entries z (judged_of n m limit (length rules) (length entries) (length (closed_words n m rules)) z)
does n m limit end rules entries z = go (leb m (length rules)) refl
  where
    clause : leb m (length rules) ≡ false → (z : ℤ) → Does n m limit end rules entries z (judged_by limit (length rules) (length entries) (length (closed_words n m rules)) (named_of n z))
    clause t (pos zero) = closes n m limit end rules entries (pos zero) t refl (leb (length (closed_words n m rules) + length entries + 1) limit) refl
    clause t (pos (suc v)) = by_entry n m limit end rules entries (pos (suc v)) t (as_entry n (pos (suc v))) (entry_word n (pos (suc v))) refl
    clause t (negsuc v) = by_entry n m limit end rules entries (negsuc v) t (as_entry n (negsuc v)) (entry_word n (negsuc v)) refl

    go : (b : Bool) → leb m (length rules) ≡ b
        → Does n m limit end rules entries z (cond b (Err ExtraToken) (judged_by limit (length rules) (length entries) (length (closed_words n m rules)) (named_of n z)))
    go true t = extra n m limit end rules entries z t
    go false t = clause t z

-- ── the loop ──
-- the clauses read so far, behind which the rest answers what all of them answer
pub record Scanning (text : List ℕ) (from n m limit at closed width head : ℕ) : Type 0 where
  pub rules : List Rule
  pub entries : Rule
  pub count : closed ≡ length rules
  pub wide : width ≡ length entries
  pub size : head ≡ length (closed_words n m rules)
  pub few : closed ≤ 2000
  pub narrow : width ≤ 32
  pub short : head ≤ 16384
  pub rest :
      read_numbers limit (length text) (inside n m rules entries) (tokens_at text at) ≡ read_numbers limit (length text) (inside n m [] []) (tokens_at text from)

pub scanning_start : (text : List ℕ) (from : ℕ) {n m limit : ℕ} → ScanFits n limit → Scanning text from n m limit from 0 0 (n + 2)
scanning_start text from {n} {m} f = record {
  rules = [];
  entries = [];
  count = refl;
  wide = refl;
  size = sym (counts_long n m) ∙ ap length (all_closed n m []);
  few = omega arith;
  narrow = omega arith;
  short = omega (arith, f.fits, f.short);
  rest = refl;
}

module _ {text : List ℕ} {from n m limit at closed width head : ℕ} (g : Scanning text from n m limit at closed width head) where
  ends_by : {x : Parsed} → read_numbers limit (length text) (inside n m g.rules g.entries) (tokens_at text at) ≡ x
      → filed_of x ≡ filed_of (read_numbers limit (length text) (inside n m [] []) (tokens_at text from))
  ends_by e = ap filed_of (sym e ∙ g.rest)

  refuses : (r : Refused Flaw) → read_numbers limit (length text) (inside n m g.rules g.entries) (tokens_at text at) ≡ refused r.kind r.place
      → Scans text from n m limit (Err r)
  refuses r e = record { says = ends_by e; counts = tt }

  pub scanning_bad : (r : Refused Flaw) → Err r ≡ flawed (next_of (tokens_at text at)) → Scans text from n m limit (Err r)
  scanning_bad r e = refuses r (numbers_mistaken text at limit (inside n m g.rules g.entries) e)

  module _ (e : Ok None ≡ flawed (next_of (tokens_at text at))) where
    over : read_numbers limit (length text) (inside n m g.rules g.entries) (tokens_at text at) ≡ ended_at (length text) (inside n m g.rules g.entries)
    over =
        ap (read_numbers limit (length text) (inside n m g.rules g.entries)) (next_end text at (flawed_ok e))
        ∙ numbers_end limit (length text) (inside n m g.rules g.entries)

    pub scanning_missing : closed < m → Scans text from n m limit (Err (record { kind = NotClosed; place = length text }))
    scanning_missing l =
        refuses (record { kind = NotClosed; place = length text })
        (over
        ∙ ap (λ (b : Bool). cond b (refused NotClosed (length text)) (file (unit_hall n g.rules))) (lt-ltb (length g.rules) m (omega (arith, g.count))))

    pub scanning_end : m ≤ closed → Scans text from n m limit (Ok head)
    scanning_end l = record {
      says =
          ap Ok (g.size ∙ closed_same n m (length g.rules) g.rules ∙ ap length (sym (hall_words n g.rules)))
          ∙ ends_by
          (over
          ∙ ap (λ (b : Bool). cond b (refused NotClosed (length text)) (file (unit_hall n g.rules))) (le-ltb (length g.rules) m (omega (arith, g.count))));
      counts = omega (arith, g.size, closed_counts n m g.rules);
    }

  module _ {found : Found} (e : Ok (Some found) ≡ flawed (next_of (tokens_at text at))) where
    pub scanning_word : FoundWord text at found
    scanning_word = next_found text at (flawed_ok e)

    -- the code judges what the machine reads back from the number's bits
    module _ {y : ℤ} (same : y ≡ found.word) {j : Result Judged Flaw} (q : j ≡ judged_of n m limit closed width head y) where
      done : Does n m limit (length text) g.rules g.entries found.word j
      done = rw (q, same, g.count, g.wide, g.size) (does n m limit (length text) g.rules g.entries found.word)

      pub scanning_flaw : (f : Flaw) → j ≡ Err f → Scans text from n m limit (Err (record { kind = f; place = found.start }))
      scanning_flaw f u =
          let w = scanning_word in
          refuses (record { kind = f; place = found.start })
          (ap (read_numbers limit (length text) (inside n m g.rules g.entries)) w.first
          ∙ subst (Does n m limit (length text) g.rules g.entries found.word) u done w.token (tokens_at text found.end) w.says
          ∙ ap (refused f) w.place)

      closing : j ≡ Ok Closes → Closing n m limit (length text) g.rules g.entries found.word
      closing u = subst (Does n m limit (length text) g.rules g.entries found.word) u done

      entering : j ≡ Ok Enters → Entering n m limit (length text) g.rules g.entries found.word
      entering u = subst (Does n m limit (length text) g.rules g.entries found.word) u done

      module _ (few : m ≤ 2000) (f : ScanFits n limit) where
        pub scanning_closes : j ≡ Ok Closes → Scanning text from n m limit found.end (closed + 1) 0 (head + (width + 1))
        scanning_closes u =
            let w = scanning_word in
            let d = closing u in
            record {
              rules = g.rules ++ (g.entries ∷ []);
              entries = [];
              count = omega (arith, g.count, length-append g.rules (g.entries ∷ []));
              wide = refl;
              size =
                  omega
                  (arith, g.size, g.wide, ap length (closed_more n m g.rules g.entries), length-append (closed_words n m g.rules) (rule_words g.entries), rule_long g.entries);
              few = omega (arith, g.count, d.declared);
              narrow = omega arith;
              short = omega (arith, g.size, g.wide, d.fits, f.short);
              rest =
                  sym (found_on text _ _ w.first w.says limit (inside n m g.rules g.entries) _ d.takes (omega (arith, close_long n m g.rules g.entries, d.fits)))
                  ∙ g.rest;
            }

        pub scanning_enters : j ≡ Ok Enters → Scanning text from n m limit found.end closed (width + 1) head
        scanning_enters u =
            let w = scanning_word in
            let d = entering u in
            record {
              rules = g.rules;
              entries = g.entries ++ (d.e ∷ []);
              count = g.count;
              wide = omega (arith, g.wide, length-append g.entries (d.e ∷ []));
              size = g.size;
              few = g.few;
              narrow = omega (arith, g.wide, d.narrow);
              short = g.short;
              rest =
                  sym (found_on text _ _ w.first w.says limit (inside n m g.rules g.entries) _ d.takes (omega (arith, enter_long n m g.rules g.entries d.e, d.fits)))
                  ∙ g.rest;
            }
