-- How a text is reached: separators and allowed tokens up to a place, and what the reader makes of them.
--
-- In order: closed texts, one behind another (`closed_append`); the bytes of an allowed token (`allowed_bytes`, `allowed_some`); one
-- separator, and one token with the separator behind it (`skip_one`, `past_token`); what the reader makes of a text from a place on that is
-- reached (`behind`, `closed_reads`, `reached_reads`); one separator and one word further (`reached_separator`, `reached_word`). Assumes
-- nothing.
use mathlib.Core.Path.{◌≡◌, refl, sym, ◌∙◌, ap, subst}
use mathlib.Core.Bool.{Bool, true, false}
use mathlib.Core.List.{List, [], ◌∷◌, ◌++◌, append_assoc, append-nil}
use Prim.Native.Nat.{ℕ, suc, ◌+◌, ◌-◌, ◌≤◌}
use native.Mathlib.Omega.{arith}
use lib.ListN.{length, length-append}
use lib.IntN.{ℤ}
use Rattle.typed.specs.Text.{Read, refused, got, then, is_separator, in_token, is_digit, Token, tokens_from, tokens, read_tokens, placed}
use Rattle.typed.specs.Allowed.{Passing, sign, Allowed, Closed, nothing, separator, word, Reached}
use Rattle.typed.proofs.Digits.{digit_in_token, minus_in_token}
use Rattle.typed.proofs.Taking.{got_one}
use Rattle.typed.proofs.Runs.{run_token}
use Rattle.typed.proofs.Sayings.{says_only}

-- ── closed texts ──
pub closed_append : {a b : List ℕ} {ws vs : List ℤ} → Closed a ws → Closed b vs → Closed (a ++ b) (ws ++ vs)
closed_append nothing d = d
closed_append (separator e c) d = separator e (closed_append c d)
closed_append {b = b} {vs = vs} (word {token} {z} s {bs} {words} a e c) d =
    subst (λ (l : List ℕ). Closed l (z ∷ (words ++ vs))) (sym (append_assoc token (s ∷ bs) b)) (word s a e (closed_append c d))

-- an allowed token has a byte, and only bytes of a token
each_digits : (digits : List ℕ) → Passing is_digit digits → Passing in_token digits
each_digits [] e = tt
each_digits (b ∷ bs) e = (digit_in_token b e.0, each_digits bs e.1)

module _ {token : List ℕ} {z : ℤ} (a : Allowed token z) where
  pub allowed_bytes : Passing in_token token
  allowed_bytes = subst (Passing in_token) (sym a.spelled) (go a.minus)
    where
      go : (minus : Bool) → Passing in_token (sign minus ++ a.digits)
      go true = (minus_in_token, each_digits a.digits a.each)
      go false = each_digits a.digits a.each

  pub allowed_some : 1 ≤ length token
  allowed_some = omega (arith, ap length a.spelled, length-append (sign a.minus) a.digits, a.some)

-- ── one token ──
pub skip_one : (i b : ℕ) (bs : List ℕ) → is_separator b ≡ true → tokens_from true i (b ∷ bs) ≡ tokens_from true (suc i) bs
unfolding tokens_from
skip_one i b bs e = rw e

-- a token and the separator behind it
pub past_token : (i : ℕ) (token : List ℕ) (b : ℕ) (after : List ℕ) → 1 ≤ length token → Passing in_token token → is_separator b ≡ true
    → tokens_from true i (token ++ (b ∷ after)) ≡ placed i token ∷ tokens_from true (suc (i + length token)) after
past_token i token b after some bytes e =
    run_token i token (b ∷ after) some bytes e ∙ ap (λ (ts : List Token). placed i token ∷ ts) (skip_one (i + length token) b after e)

-- ── reading from a place on ──
-- what is read behind some words
abbrev pub behind : List ℤ → Read (List ℤ) → Read (List ℤ)
behind words x = then x λ zs. got (words ++ zs)

behind_nothing : (x : Read (List ℤ)) → x ≡ behind [] x
behind_nothing (refused m i) = refl
behind_nothing (got zs) = refl

behind_word : (z : ℤ) (words : List ℤ) (x : Read (List ℤ)) → then (behind words x) (λ zs. got (z ∷ zs)) ≡ behind (z ∷ words) x
behind_word z words (refused m i) = refl
behind_word z words (got zs) = refl

pub word_behind : (words : List ℤ) (z : ℤ) (x : Read (List ℤ)) → behind words (then x λ zs. got (z ∷ zs)) ≡ behind (words ++ (z ∷ [])) x
word_behind words z (refused m i) = refl
word_behind words z (got zs) = ap got (sym (append_assoc words (z ∷ []) zs))

closed_reads : {before : List ℕ} {words : List ℤ} → Closed before words → (i : ℕ) (rest : List ℕ) (room : ℕ) → length words ≤ room
    → read_tokens room (tokens_from true i (before ++ rest)) ≡ behind words (read_tokens (room - length words) (tokens_from true (i + length before) rest))
closed_reads nothing i rest room h =
    behind_nothing (read_tokens room (tokens_from true i rest))
    ∙ ap (λ (k : ℕ). behind [] (read_tokens k (tokens_from true i rest))) (omega arith)
    ∙ ap (λ (j : ℕ). behind [] (read_tokens (room - 0) (tokens_from true j rest))) (omega arith)
closed_reads (separator {b} {bs} {words} e c) i rest room h =
    ap (read_tokens room) (skip_one i b (bs ++ rest) e)
    ∙ closed_reads c (suc i) rest room h
    ∙ ap (λ (j : ℕ). behind words (read_tokens (room - length words) (tokens_from true j rest))) (omega arith)
closed_reads (word {token} {z} b {bs} {words} a e c) i rest room h =
    let t : Token = placed i token in
    let ts = tokens_from true (suc (i + length token)) (bs ++ rest) in
    let k : room - 1 - length words ≡ room - suc (length words) = omega arith in
    let j : suc (i + length token) + length bs ≡ i + length (token ++ (b ∷ bs)) = omega (arith, length-append token (b ∷ bs)) in
    ap (read_tokens room)
    (ap (tokens_from true i) (append_assoc token (b ∷ bs) rest) ∙ past_token i token b (bs ++ rest) (allowed_some a) (allowed_bytes a) e)
    ∙ got_one t ts z (says_only i token (got z) a) room (omega arith)
    ∙ ap (λ (x : Read (List ℤ)). then x λ zs. got (z ∷ zs)) (closed_reads c (suc (i + length token)) rest (room - 1) (omega arith))
    ∙ behind_word z words (read_tokens (room - 1 - length words) (tokens_from true (suc (i + length token) + length bs) rest))
    ∙ ap (λ (k : ℕ). behind (z ∷ words) (read_tokens k (tokens_from true (suc (i + length token) + length bs) rest))) k
    ∙ ap (λ (j : ℕ). behind (z ∷ words) (read_tokens (room - suc (length words)) (tokens_from true j rest))) j

pub reached_reads : {text : List ℕ} {words : List ℤ} {place : ℕ} {rest : List ℕ} → Reached text words place rest → (room : ℕ) → length words ≤ room
    → read_tokens room (tokens text) ≡ behind words (read_tokens (room - length words) (tokens_from true place rest))
reached_reads {words = words} {rest = rest} r room h =
    ap (λ (l : List ℕ). read_tokens room (tokens l)) r.whole
    ∙ closed_reads r.closed 0 rest room h
    ∙ ap (λ (j : ℕ). behind words (read_tokens (room - length words) (tokens_from true j rest))) (omega (arith, r.size))

-- ── one step further ──
pub reached_separator : {text : List ℕ} {words : List ℤ} {place b : ℕ} {bs : List ℕ} → is_separator b ≡ true
    → Reached text words place (b ∷ bs) → Reached text words (suc place) bs
reached_separator {words = words} {b = b} {bs = bs} e r = record {
  before = r.before ++ (b ∷ []);
  closed = subst (Closed (r.before ++ (b ∷ []))) (append-nil words) (closed_append r.closed (separator e nothing));
  whole = r.whole ∙ sym (append_assoc r.before (b ∷ []) bs);
  size = omega (arith, r.size, length-append r.before (b ∷ []));
}

pub reached_word : {text : List ℕ} {words : List ℤ} {place : ℕ} (token : List ℕ) {z : ℤ} (b : ℕ) (bs : List ℕ) → Allowed token z
    → is_separator b ≡ true
    → Reached text words place (token ++ (b ∷ bs)) → Reached text (words ++ (z ∷ [])) (suc (place + length token)) bs
reached_word token b bs a e r = record {
  before = r.before ++ (token ++ (b ∷ []));
  closed = closed_append r.closed (word b a e nothing);
  whole = r.whole ∙ sym (append_assoc r.before (token ++ (b ∷ [])) bs ∙ ap (λ (l : List ℕ). r.before ++ l) (append_assoc token (b ∷ []) bs));
  size = omega (arith, r.size, length-append r.before (token ++ (b ∷ [])), length-append token (b ∷ []));
}
