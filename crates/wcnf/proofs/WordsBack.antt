-- Numbers, literals and what starts a clause are read as what was printed.
--
-- In order: a printed number (`number_back`), which is a token and begins no comment (`number_token`, `number_plain`), and several
-- (`numbers_back`); a printed literal (`literal_back`, `denied_back`), the literals of a clause and its 0 (`literals_back`), all of
-- them tokens (`word_token`); what starts a clause (`Starts`), from 2022 (`starts_since`) and before (`starts_before`). Assumes
-- nothing.
use mathlib.Core.Path.{◌≡◌, refl, sym, ◌∙◌, ap}
use mathlib.Core.Bool.{false}
use mathlib.Core.List.{List, [], ◌∷◌, ◌++◌, map, append-nil}
use mathlib.Core.Option.{Option, some, none-ne-some}
use Prim.Native.Nat.{ℕ, zero, suc, ◌+◌, ◌≤◌}
use native.Mathlib.Omega.{arith}
use lib.ListN.{length}
use lib.IntN.{ℤ, pos, negsuc}
use borrow.Author.Tests.{lt-ltb, eq-eqb, ne_eqb}
use Rattle.lists.specs.Bytes.{bytes}
use Rattle.lists.proofs.Each.{each_map}
use Rattle.hall.specs.Hall.{Entry, at1, at0, Rule}
use Rattle.hall.specs.Ranges.{words_of, entry_words}
use Rattle.typed.specs.Text.{is_digit, front, digits_in, decimal}
use Rattle.typed.specs.Allowed.{Passing}
use Rattle.typed.specs.Printing.{digits_by, digits_of, printed_word}
use Rattle.typed.proofs.Digits.{digit_range}
use Rattle.typed.proofs.Fronts.{each_front}
use Rattle.typed.proofs.Printed.{digits_each, digits_say, digits_some}
use Rattle.rails.specs.Weighted.{Clause, hard, soft}
use Rattle.wcnf.specs.Format.{is_comment, same, number, literal, literals_to0, soft_by, start_since, start_before, numbers}
use Rattle.wcnf.proofs.TokensBack.{IsToken}

-- ── numbers ──
digits_only : (n : ℕ) → Passing is_digit (digits_of n)
digits_only n = digits_each n n (omega arith)

number_of_lem : (ds : List ℕ) → Passing is_digit ds → 1 ≤ length ds → number ds ≡ some (decimal 0 ds)
number_of_lem ds each more =
    let all = ap length (ap (front is_digit) (sym (append-nil ds)) ∙ each_front is_digit ds [] each tt) in
    rw (lt-ltb 0 (length ds) more, eq-eqb (digits_in ds) (length ds) all) refl

number_back : (n : ℕ) → number (digits_of n) ≡ some n
number_back n = number_of_lem (digits_of n) (digits_only n) (digits_some n n) ∙ ap some (digits_say n n (omega arith))

pub number_token : (n : ℕ) → IsToken (digits_of n)
number_token n = record { some = digits_some n n; above = each_map _ _ (λ b d. let r = digit_range b d in omega arith) (digits_of n) (digits_only n) }

digits_plain : (ds : List ℕ) → Passing is_digit ds → is_comment ds ≡ false
digits_plain [] each = refl
digits_plain (b ∷ ds) each = let r = digit_range b each.0 in ne_eqb b 99 (λ q. omega arith)

pub number_plain : (n : ℕ) → is_comment (digits_of n) ≡ false
number_plain n = digits_plain (digits_of n) (digits_only n)

pub numbers_back : (ns : List ℕ) → numbers (map digits_of ns) ≡ some ns
unfolding numbers
numbers_back [] = refl
numbers_back (n ∷ ns) = rw (number_back n, numbers_back ns) refl

-- ── literals ──
-- digits begin with no minus
digits_literal : (ds : List ℕ) (v : ℕ) → Passing is_digit ds → number ds ≡ some (suc v) → literal ds ≡ some (at1 v)
digits_literal [] v each n = absurd (none-ne-some (suc v) n)
digits_literal (b ∷ ds) v each n = let r = digit_range b each.0 in rw (ne_eqb b 45 (λ q. omega arith), n) refl

literal_back : (v : ℕ) → literal (digits_of (suc v)) ≡ some (at1 v)
literal_back v = digits_literal (digits_of (suc v)) v (digits_only (suc v)) (number_back (suc v))

denied_back : (v : ℕ) → literal (45 ∷ digits_of (suc v)) ≡ some (at0 v)
denied_back v = rw (number_back (suc v)) refl

pub word_token : (z : ℤ) → IsToken (printed_word z)
word_token (pos n) = number_token n
word_token (negsuc n) = let t = number_token (suc n) in record { some = omega arith; above = (omega arith, t.above) }

-- a literal in front of others and their 0
one_more_lem : (t : List ℕ) (ts : List (List ℕ)) (e : Entry) (es : Rule) → literal t ≡ some e → literals_to0 ts ≡ some es → literals_to0 (t ∷ ts) ≡ some (e ∷ es)
unfolding literals_to0
one_more_lem t [] e es l r = absurd (none-ne-some es r)
one_more_lem t (u ∷ ts) e es l r = rw (l, r) refl

-- the words of a clause and its 0
abbrev pub clause_words : Rule → List ℤ
clause_words c = words_of entry_words c ++ (pos 0 ∷ [])

zero_ends : literals_to0 (digits_of 0 ∷ []) ≡ some []
unfolding literals_to0 same digits_by
zero_ends = refl

pub literals_back : (c : Rule) → literals_to0 (map printed_word (clause_words c)) ≡ some c
unfolding words_of
literals_back [] = zero_ends
literals_back (at1 v ∷ es) = one_more_lem _ _ (at1 v) es (literal_back v) (literals_back es)
literals_back (at0 v ∷ es) = one_more_lem _ _ (at0 v) es (denied_back v) (literals_back es)

-- ── what starts a clause ──
-- a word for hard clauses and a reading of what starts a clause: it takes that word for a hard one, a weight from 1 to `most` for a
-- soft one
pub record Starts (most : ℕ) (word : List ℕ) (start : List ℕ → Option (Rule → Clause)) : Type 0 where
  pub token : IsToken word
  pub plain : is_comment word ≡ false
  pub as_hard : start word ≡ some hard
  pub as_soft : (w : ℕ) → 1 ≤ w → w ≤ most → start (digits_of w) ≡ some (soft w)

-- digits do not begin with an `h`
digits_not_h : (ds : List ℕ) → Passing is_digit ds → same ds (bytes "h") ≡ false
unfolding same
digits_not_h [] each = refl
digits_not_h (b ∷ ds) each = let r = digit_range b each.0 in rw (ne_eqb b 104 (λ q. omega arith)) refl

soft_by_lem : (w : ℕ) → 1 ≤ w → soft_by w ≡ some (soft w)
soft_by_lem zero l = absurd (omega arith)
soft_by_lem (suc w) l = refl

h_starts : start_since (bytes "h") ≡ some hard
unfolding same
h_starts = refl

pub starts_since : (most : ℕ) → Starts most (bytes "h") start_since
starts_since most = record {
  token = record { some = omega arith; above = (omega arith, tt) };
  plain = refl;
  as_hard = h_starts;
  as_soft = λ w l m. rw (digits_not_h (digits_of w) (digits_only w), number_back w) (soft_by_lem w l);
}

pub starts_before : (most : ℕ) → Starts most (digits_of (most + 1)) (start_before (most + 1))
starts_before most = record {
  token = number_token (most + 1);
  plain = number_plain (most + 1);
  as_hard = rw (number_back (most + 1), eq-eqb (most + 1) (most + 1) refl) refl;
  as_soft = λ w l m. rw (number_back w, ne_eqb w (most + 1) (λ q. omega arith), lt-ltb w (most + 1) (omega arith)) (soft_by_lem w l);
}
