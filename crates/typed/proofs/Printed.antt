-- Words that are printed in decimal, with single blanks between, read back as themselves.
--
-- In order: the digits of a number are digits (`digits_each`), say the number (`digits_say`), and are one (`digits_some`) to as many
-- as its power of ten allows (`digits_few`), laws that serve the texts of crates/reply and crates/wcnf too; a printed word is an
-- allowed token with that value (`word_allowed`); one word in front of a text (`spells_word`); printed words are spelled
-- (`printed_spells`) and read back (`printed_reads`, `printed_back`). Assumes nothing.
use mathlib.Core.Path.{◌≡◌, refl, sym, ◌∙◌, ap, subst}
use mathlib.Core.Bool.{Bool, true, false, cond}
use mathlib.Core.List.{List, [], ◌∷◌, ◌++◌, append_assoc}
use Prim.Native.Nat.{ℕ, zero, suc, ◌+◌, ◌-◌, ◌*◌, ◌/◌, ◌%◌, ◌^◌, ◌≤◌, ◌<◌}
use native.Mathlib.Omega.{arith}
use native.Mathlib.Nat.{pow-suc, mod-lt, div-add-mod', div-lt_iff_lt-mul, div-lt_self}
use lib.ListN.{length, length-append}
use lib.IntN.{ℤ, pos, negsuc, neg_ℤ}
use lib.Dec.{ltb, lit<}
use Rattle.std.proofs.Common.{Result, Ok}
use Rattle.refusals.specs.declared.Refused.{Refused}
use borrow.Author.Tests.{ltb-true, ltb-false, le-leb}
use Rattle.lists.specs.Lists.{Each, in_front}
use Rattle.lists.proofs.Each.{each_append}
use Rattle.typed.specs.Text.{Read, got, is_separator, is_digit, decimal, read_text}
use Rattle.typed.specs.Answer.{reading_of, numbers_of, room_after, Reads}
use Rattle.typed.specs.Allowed.{Passing, WordSized, Allowed, nothing, word, Spells, ended, last}
use Rattle.typed.specs.Printing.{digits_by, digits_of, printed_word, printed}
use Rattle.typed.specs.declared.Mistake.{Mistake}
use Rattle.typed.proofs.Only.{numbers_injective}
use Rattle.typed.proofs.Verdicts.{verdict_only}

-- ── the digits of a number ──
digit_is : (n : ℕ) → n < 10 → is_digit (48 + n) ≡ true
digit_is n h = rw (le-leb 48 (48 + n) (omega arith), le-leb (48 + n) 57 (omega arith))

decimal_append : (n : ℕ) (a : List ℕ) (b : ℕ) → decimal n (a ++ (b ∷ [])) ≡ decimal n a * 10 + (b - 48)
unfolding decimal
decimal_append n [] b = refl
decimal_append n (x ∷ a) b = decimal_append (n * 10 + (x - 48)) a b

-- where a number has more than one digit, the others are those of its tenth
tenth : (k n : ℕ) → n ≤ suc k → 10 ≤ n → n / 10 ≤ k
tenth k n h l = omega (arith, div-lt_self {n = n} {k = 10} (omega arith) (lit< tt))

pub digits_each : (k n : ℕ) → n ≤ k → Passing is_digit (digits_by k n)
unfolding digits_by
digits_each zero n h = (digit_is n (omega arith), tt)
digits_each (suc k) n h = go (ltb n 10) refl (digits_each k (n / 10))
  where
    go : (t : Bool) → ltb n 10 ≡ t → (n / 10 ≤ k → Passing is_digit (digits_by k (n / 10)))
        → Passing is_digit (cond t ((48 + n) ∷ []) (digits_by k (n / 10) ++ ((48 + n % 10) ∷ [])))
    go true u ih = (digit_is n (ltb-true n 10 u), tt)
    go false u ih =
        let last = digit_is (n % 10) (mod-lt n {m = 10} (lit< tt)) in
        each_append (λ b. is_digit b ≡ true) (digits_by k (n / 10)) ((48 + n % 10) ∷ []) (ih (tenth k n h (ltb-false n 10 u))) (last, tt)

pub digits_say : (k n : ℕ) → n ≤ k → decimal 0 (digits_by k n) ≡ n
unfolding digits_by decimal
digits_say zero n h = omega arith
digits_say (suc k) n h = go (ltb n 10) refl (digits_say k (n / 10))
  where
    go : (t : Bool) → ltb n 10 ≡ t → (n / 10 ≤ k → decimal 0 (digits_by k (n / 10)) ≡ n / 10)
        → decimal 0 (cond t ((48 + n) ∷ []) (digits_by k (n / 10) ++ ((48 + n % 10) ∷ []))) ≡ n
    go true u ih = omega arith
    go false u ih =
        let d = ih (tenth k n h (ltb-false n 10 u)) in
        decimal_append 0 (digits_by k (n / 10)) (48 + n % 10) ∙ omega (arith, d, div-add-mod' n 10)

pub digits_some : (k n : ℕ) → 1 ≤ length (digits_by k n)
unfolding digits_by
digits_some zero n = omega arith
digits_some (suc k) n = go (ltb n 10)
  where
    go : (t : Bool) → 1 ≤ length (cond t ((48 + n) ∷ []) (digits_by k (n / 10) ++ ((48 + n % 10) ∷ [])))
    go true = omega arith
    go false = omega (arith, length-append (digits_by k (n / 10)) ((48 + n % 10) ∷ []))

pub digits_few : (k n j : ℕ) → n < 10 ^ suc j → length (digits_by k n) ≤ suc j
unfolding digits_by
digits_few zero n j h = omega arith
digits_few (suc k) n j h = go (ltb n 10) refl j h (λ i. digits_few k (n / 10) i)
  where
    go : (t : Bool) → ltb n 10 ≡ t → (j : ℕ) → n < 10 ^ suc j → ((i : ℕ) → n / 10 < 10 ^ suc i → length (digits_by k (n / 10)) ≤ suc i)
        → length (cond t ((48 + n) ∷ []) (digits_by k (n / 10) ++ ((48 + n % 10) ∷ []))) ≤ suc j
    go true u j h ih = omega arith
    go false u zero h ih = absurd (let l = ltb-false n 10 u in omega arith)
    go false u (suc j) h ih =
        let l = ih j ((div-lt_iff_lt-mul {k = 10} {x = n} {y = 10 ^ suc j} (lit< tt)).1 (subst (λ (m : ℕ). n < m) (pow-suc 10 (suc j)) h)) in
        omega (arith, length-append (digits_by k (n / 10)) ((48 + n % 10) ∷ []))

-- ── a word ──
pub word_allowed : (z : ℤ) → WordSized z → Allowed (printed_word z) z
word_allowed (pos n) h = record {
  minus = false;
  digits = digits_of n;
  spelled = refl;
  each = digits_each n n (omega arith);
  some = digits_some n n;
  few = digits_few n n 9 (omega arith);
  value = ap pos (sym (digits_say n n (omega arith)));
  range = h;
}
word_allowed (negsuc n) h = record {
  minus = true;
  digits = digits_of (suc n);
  spelled = refl;
  each = digits_each (suc n) (suc n) (omega arith);
  some = digits_some (suc n) (suc n);
  few = digits_few (suc n) (suc n) 9 (omega arith);
  value = ap (λ (k : ℕ). neg_ℤ (pos k)) (sym (digits_say (suc n) (suc n) (omega arith)));
  range = h;
}

-- ── all words ──
spells_word : {token bs : List ℕ} {z : ℤ} {words : List ℤ} (b : ℕ) → Allowed token z → is_separator b ≡ true → Spells bs words
    → Spells (token ++ (b ∷ bs)) (z ∷ words)
spells_word b a e (ended c) = ended (word b a e c)
spells_word {token} {z = z} b a e (last {token = end} r l q) =
    last
    (record {
      before = token ++ (b ∷ r.before);
      closed = word b a e r.closed;
      whole = ap (λ (l : List ℕ). token ++ (b ∷ l)) r.whole ∙ sym (append_assoc token (b ∷ r.before) end);
      size = refl;
    })
    l
    (ap (λ (l : List ℤ). z ∷ l) q)

pub printed_spells : (words : List ℤ) → Each WordSized words → Spells (printed words) words
unfolding printed
printed_spells [] h = ended nothing
printed_spells (z ∷ []) h = last (record { before = []; closed = nothing; whole = refl; size = refl }) (word_allowed z h.0) refl
printed_spells (z ∷ y ∷ words) h = spells_word 32 (word_allowed z h.0) refl (printed_spells (y ∷ words) h.1)

pub printed_reads : (words : List ℤ) (room : ℕ) → Each WordSized words → length (printed words) ≤ 60000 → length words ≤ room
    → read_text (printed words) room ≡ got words
printed_reads words room h short fits =
    verdict_only (printed words) room (got words) (record { short = short; fits = fits; spells = printed_spells words h })

-- so `read` answers their number and puts them at the front of the room
pub printed_back : (words before : List ℤ) {r : Result ℕ (Refused Mistake)} {after : List ℤ} → Each WordSized words → length (printed words) ≤ 60000
    → length words ≤ length before
    → Reads (printed words) before r after → (r ≡ Ok (length words)) × (after ≡ in_front words before)
printed_back words before {r} h short fits x =
    let e = printed_reads words (length before) h short fits in
    let told = x.says ∙ ap (λ (y : Read (List ℤ)). numbers_of (reading_of y)) e in
    (numbers_injective r (Ok (length words)) told, x.room ∙ ap (λ (y : Read (List ℤ)). room_after y before) e)
