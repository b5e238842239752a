-- A hall within the limits whose costs are all 1, written as DIMACS text in the usual way, reads back as itself.
--
-- In order: comment lines lead up to the header (`comments_lead`); entries are words (`entry_sized`); what is written of entries, of a
-- clause and of all clauses is closed, with their numbers (`entries_closed`, `clause_closed`, `clauses_closed`), and so is all that stands
-- behind the header's words (`numbers_closed`); the text's parts and its length (`written_parts`, `written_size`); so the
-- text is accepted (`written_accepted`), and the reader reads the hall (`written_reads`, `written_back`). Assumes nothing.
use mathlib.Core.Path.{◌≡◌, refl, sym, ◌∙◌, ap, subst}
use mathlib.Core.Bool.{true, false}
use mathlib.Core.List.{List, [], ◌∷◌, ◌++◌, append_assoc, append-nil}
use Prim.Native.Nat.{ℕ, suc, ◌+◌, ◌≤◌, ◌<◌}
use native.Mathlib.Omega.{arith}
use lib.ListN.{length, replicate, length-append}
use lib.IntN.{ℤ, pos}
use lib.Dec.{eqb}
use Rattle.std.proofs.Common.{Result, Ok}
use Rattle.refusals.specs.declared.Refused.{Refused}
use Rattle.lists.specs.Lists.{Each, in_front}
use Rattle.lists.specs.Bytes.{bytes}
use Rattle.hall.specs.Hall.{at1, at0, device, Rule, Hall}
use Rattle.hall.specs.Ranges.{RuleInRange, HallInRange, words_of, entry_words, words}
use Rattle.typed.specs.Allowed.{WordSized, Closed, nothing, separator, word}
use Rattle.typed.specs.Printing.{digits_by, digits_of, printed_word}
use Rattle.typed.proofs.Printed.{word_allowed}
use Rattle.typed.proofs.Reaching.{closed_append}
use Rattle.dimacs.specs.Stage.{inside, unit_hall}
use Rattle.dimacs.specs.File.{Parsed, file, read_file}
use Rattle.dimacs.specs.Standing.{lined, Lead, clause_numbers, numbers_to, Accepted}
use Rattle.dimacs.specs.Standing as standing
use Rattle.dimacs.specs.Contract.{filed_of, numbers_of, room_after, Files}
use Rattle.dimacs.specs.Written.{written_each, comment_line, header_line, clause_line, written_file}
use Rattle.dimacs.specs.declared.Flaw.{Flaw}
use Rattle.dimacs.proofs.SoFar.{sheet_words}
use Rattle.dimacs.proofs.Verdicts.{verdict_only}
use Rattle.dimacs.proofs.Only.{numbers_injective}

-- ── the comment lines ──
comments_lead : (comments : List (List ℕ)) → Each (Each (λ b. eqb b 10 ≡ false)) comments → Lead true (written_each comment_line comments) true
unfolding written_each
comments_lead [] h = standing.nothing
comments_lead (l ∷ comments) h =
    subst
    (λ (bs : List ℕ). Lead true (99 ∷ bs) true)
    (sym (append_assoc l (10 ∷ []) (written_each comment_line comments)))
    (standing.comment l h.0 (comments_lead comments h.1))

-- ── the numbers ──
-- an entry of a hall with at most 200 devices is a word
entry_sized : (n : ℕ) (c : Rule) → n ≤ 200 → Each (λ e. device e < n) c → Each WordSized (words_of entry_words c)
unfolding words_of
entry_sized n [] few h = tt
entry_sized n (at1 v ∷ c) few h = (let l : v < n = h.0 in omega arith, entry_sized n c few h.1)
entry_sized n (at0 v ∷ c) few h = (let l : v < n = h.0 in omega arith, entry_sized n c few h.1)

entries_closed : (zs : List ℤ) → Each WordSized zs → Closed (written_each (λ z. printed_word z ++ bytes " ") zs) zs
unfolding written_each
entries_closed [] h = nothing
entries_closed (z ∷ zs) h = closed_append (word 32 (word_allowed z h.0) refl nothing) (entries_closed zs h.1)

module _ (n : ℕ) (few : n ≤ 200) where
  clause_closed : (c : Rule) → RuleInRange n c → Closed (clause_line c) (clause_numbers c)
  unfolding digits_by
  clause_closed c r =
      closed_append
      (entries_closed (words_of entry_words c) (entry_sized n c few r.named))
      (word 10 (word_allowed (pos 0) (omega arith)) refl nothing)

  clauses_closed : (rules : List Rule) → Each (RuleInRange n) rules → Closed (written_each clause_line rules) (words_of clause_numbers rules)
  unfolding written_each words_of
  clauses_closed [] h = nothing
  clauses_closed (c ∷ rules) h = closed_append (clause_closed c h.0) (clauses_closed rules h.1)

-- what stands behind the header's words, with the line end behind the text
abbrev written_numbers : (n : ℕ) → List Rule → List ℕ
written_numbers n rules = digits_of n ++ (32 ∷ (digits_of (length rules) ++ (10 ∷ (written_each clause_line rules ++ (10 ∷ [])))))

numbers_closed : (n : ℕ) (rules : List Rule) → n ≤ 200 → length rules ≤ 2000 → Each (RuleInRange n) rules
    → Closed (written_numbers n rules) (numbers_to (inside n (length rules) rules []))
unfolding numbers_to words_of
numbers_closed n rules few count good =
    word 32 (word_allowed (pos n) (omega arith)) refl
    (word 10 (word_allowed (pos (length rules)) (omega arith)) refl (closed_append (clauses_closed n few rules good) (separator refl nothing)))

-- ── the whole ──
written_parts : (comments : List (List ℕ)) (h : Hall)
    → lined (written_file comments h) ≡ written_each comment_line comments ++ (bytes "p cnf " ++ written_numbers (length h.costs) h.rules)
unfolding written_file
written_parts comments h =
    let n = digits_of (length h.costs) in
    let m = digits_of (length h.rules) in
    let lead = written_each comment_line comments in
    let header = header_line (length h.costs) (length h.rules) in
    let clauses = written_each clause_line h.rules in
    let end = clauses ++ bytes "\n" in
    append_assoc lead (header ++ clauses) (bytes "\n")
    ∙ ap (λ (l : List ℕ). lead ++ l)
    (append_assoc header clauses (bytes "\n")
    ∙ ap (λ (l : List ℕ). bytes "p cnf " ++ l)
    (append_assoc n (bytes " " ++ (m ++ bytes "\n")) end ∙ ap (λ (l : List ℕ). n ++ (32 ∷ l)) (append_assoc m (bytes "\n") end)))

written_size : (comments : List (List ℕ)) (h : Hall)
    → suc (length (written_file comments h)) ≡ length (written_each comment_line comments) + 2 + 4 + length (written_numbers (length h.costs) h.rules)
written_size comments h =
    let tail = written_numbers (length h.costs) h.rules in
    omega
    (arith, length-append (written_file comments h) (bytes "\n"), ap length (written_parts comments h), length-append (written_each comment_line comments) (bytes "p cnf " ++ tail))

pub written_accepted : (comments : List (List ℕ)) (h : Hall) (room : ℕ) → Each (Each (λ b. eqb b 10 ≡ false)) comments → HallInRange h
    → h.costs ≡ replicate (length h.costs) 1
    → length (written_file comments h) ≤ 60000 → length (words h) ≤ room → length (words h) ≤ 16384
    → Accepted (written_file comments h) room h
written_accepted comments h room lines ranges one short fits few =
    let n = length h.costs in
    let lead = written_each comment_line comments in
    let tail = written_numbers n h.rules in
    let whole : h ≡ unit_hall n h.rules = ap (λ (l : List ℕ). record { costs = l; rules = h.rules }) one in
    let sheet = sheet_words n h.rules ∙ ap words (sym whole) in
    record {
      short = short;
      n = n;
      rules = h.rules;
      stands = record {
        first = length lead + 2 + 4;
        tail = tail;
        header = record {
          first = length lead + 2;
          b = 32;
          p = record {
            ends = true;
            first = length lead;
            gap = bytes " ";
            lead = record { before = lead; lead = comments_lead comments lines; whole = written_parts comments h; size = refl };
            some = omega arith;
            blank = (refl, tt);
            size = refl;
          };
          blank = refl;
          size = refl;
        };
        behind = length tail;
        numbers = record {
          before = tail;
          closed = numbers_closed n h.rules ranges.devices ranges.count ranges.good;
          whole = sym (append-nil tail);
          size = refl;
        };
        size = written_size comments h;
        ranges = record {
          devices = ranges.devices;
          count = ranges.count;
          declared = omega arith;
          good = ranges.good;
          unclosed = record { width = omega arith; named = tt };
          last = λ l. absurd (omega arith);
        };
        fits = subst (λ (l : List ℤ). length l ≤ room) (sym sheet) fits;
        short = subst (λ (l : List ℤ). length l ≤ 16384) (sym sheet) few;
      };
      hall = whole;
    }

-- the reader reads a file that is accepted, so it reads the hall
pub written_reads : (comments : List (List ℕ)) (h : Hall) (room : ℕ) → Each (Each (λ b. eqb b 10 ≡ false)) comments → HallInRange h
    → h.costs ≡ replicate (length h.costs) 1
    → length (written_file comments h) ≤ 60000 → length (words h) ≤ room → length (words h) ≤ 16384
    → read_file (written_file comments h) room ≡ file h
written_reads comments h room lines ranges one short fits few =
    verdict_only (written_file comments h) room (file h) (written_accepted comments h room lines ranges one short fits few)

-- so `read` answers the sheet's length and puts the sheet at the front of the room
pub written_back : (comments : List (List ℕ)) (h : Hall) (before : List ℤ) {r : Result ℕ (Refused Flaw)} {after : List ℤ}
    → Each (Each (λ b. eqb b 10 ≡ false)) comments → HallInRange h
    → h.costs ≡ replicate (length h.costs) 1
    → length (written_file comments h) ≤ 60000 → length (words h) ≤ length before → length (words h) ≤ 16384
    → Files (written_file comments h) before r after → (r ≡ Ok (length (words h))) × (after ≡ in_front (words h) before)
written_back comments h before {r} lines ranges one short fits few x =
    let e = written_reads comments h (length before) lines ranges one short fits few in
    let told = x.says ∙ ap (λ (y : Parsed). numbers_of (filed_of y)) e in
    (numbers_injective r (Ok (length (words h))) told, x.room ∙ ap (λ (y : Parsed). room_after y before) e)
