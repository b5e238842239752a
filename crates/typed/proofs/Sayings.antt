-- What one token says, and why: the reader's word for a token and the token's own form agree.
--
-- In order: the optional minus (`sign_back`, `behind_sign`, `opens_digits`); ranges; the cases of 21 and 22 as facts (`wrong_stops`,
-- `stops_wrong`, `right_all`, `bad_why`, `good_why`); the form behind what a token says (`token_says`), and what a token of each form says
-- (`says_only`). Assumes nothing.
use mathlib.Core.Path.{◌≡◌, refl, sym, ◌∙◌, ap, subst}
use mathlib.Core.Logic.{◌⊎◌, inl, inr}
use mathlib.Core.Bool.{Bool, true, false, cond, not, ◌||◌, false≢true}
use mathlib.Core.List.{List, [], ◌∷◌, ◌++◌, append-nil}
use Prim.Native.Nat.{ℕ, ◌+◌, ◌≤◌, ◌<◌}
use native.Mathlib.Omega.{arith}
use lib.ListN.{length, take, drop, length-append}
use lib.Seq.{take-length}
use lib.IntN.{ℤ, pos, negsuc}
use lib.Dec.{ltb, eqb}
use borrow.Author.Tests.{ltb-true, ltb-false, leb-true, le-leb, eqb-true, eqb-false, ne_eqb, not-false}
use Rattle.lists.proofs.Cases.{fails, or_false}
use Rattle.typed.specs.Text.{Read, refused, got, is_digit, front, has_minus, behind_minus, digits_in, is_wrong, decimal, signed, fits_word, is_bad, judged, number_of, value_of, placed}
use Rattle.typed.specs.Allowed.{Passing, sign, WordSized, Allowed}
use Rattle.typed.specs.Reasons.{Stops, Wrong, Bad}
use Rattle.typed.specs.declared.Mistake.TheVariants.{WrongByte, BadNumber, TooLong, NoRoom}
use Rattle.typed.proofs.Digits.{digit_range}
use Rattle.typed.proofs.Fronts.{Fails, front_length, take_front, front_splits, front_each, front_fails, each_front}
use Rattle.typed.proofs.Judging.{wrong_none, wrong_behind, right, bad_many, bad_value, good, judged_by_lem}

-- ── the optional minus ──
sign_back : (token : List ℕ) → token ≡ sign (has_minus token) ++ behind_minus token
sign_back [] = refl
sign_back (b ∷ bs) = go (eqb b 45) refl
  where
    go : (m : Bool) → eqb b 45 ≡ m → b ∷ bs ≡ sign m ++ cond m bs (b ∷ bs)
    go true e = ap (λ (c : ℕ). c ∷ bs) (eqb-true b 45 e)
    go false e = refl

behind_sign : (token : List ℕ) (minus : Bool) (l : List ℕ) → has_minus token ≡ minus → token ≡ sign minus ++ l → behind_minus token ≡ l
behind_sign token true l h e = ap (λ (m : Bool). cond m (drop 1 token) token) h ∙ ap (drop 1) e
behind_sign token false l h e = ap (λ (m : Bool). cond m (drop 1 token) token) h ∙ e

opens_digits : (minus : Bool) (digits : List ℕ) → Passing is_digit digits → 1 ≤ length digits → has_minus (sign minus ++ digits) ≡ minus
opens_digits true digits each some = refl
opens_digits false [] each some = absurd (omega arith)
opens_digits false (b ∷ bs) each some = let r = digit_range b each.0 in ne_eqb b 45 (λ e. omega arith)

sign_length : (minus : Bool) → length (sign minus) ≡ cond minus 1 0
sign_length true = refl
sign_length false = refl

-- ── ranges ──
range_true : (z : ℤ) → fits_word z ≡ true → WordSized z
range_true (pos n) e = leb-true n 2147483647 e
range_true (negsuc n) e = leb-true n 2147483647 e

true_range : (z : ℤ) → WordSized z → fits_word z ≡ true
true_range (pos n) h = le-leb n 2147483647 h
true_range (negsuc n) h = le-leb n 2147483647 h

out_of_range : (z : ℤ) → (WordSized z → ⊥) → fits_word z ≡ false
out_of_range z h = fails (λ (e : fits_word z ≡ true). h (range_true z e))

-- ── 21 and 22 as facts ──
or_true : (a b : Bool) → (a || b) ≡ true → (a ≡ true) ⊎ (b ≡ true)
or_true true b h = inl refl
or_true false b h = inr h

empty : (l : List ℕ) → length l ≡ 0 → l ≡ []
empty [] h = refl
empty (b ∷ bs) h = absurd (omega arith)

wrong_stops : (ds : List ℕ) → is_wrong ds ≡ true → Stops (front is_digit ds) (drop (digits_in ds) ds)
wrong_stops ds e = go (drop (digits_in ds) ds) refl (front_fails is_digit ds)
  where
    none : length ds ≡ digits_in ds → front is_digit ds ≡ []
    none h = by (or_true (eqb (digits_in ds) 0) (ltb (digits_in ds) (length ds)) e)
      where
        by : (eqb (digits_in ds) 0 ≡ true) ⊎ (ltb (digits_in ds) (length ds) ≡ true) → front is_digit ds ≡ []
        by (inl u) = empty (front is_digit ds) (eqb-true (digits_in ds) 0 u)
        by (inr u) = absurd (let k = ltb-true (digits_in ds) (length ds) u in omega arith)

    go : (rest : List ℕ) → drop (digits_in ds) ds ≡ rest → Fails is_digit rest → Stops (front is_digit ds) rest
    go [] q f = none (ap length (front_splits is_digit ds ∙ ap (λ (l : List ℕ). front is_digit ds ++ l) q ∙ append-nil (front is_digit ds)))
    go (b ∷ bs) q f = f

stops_fails : (digits rest : List ℕ) → Stops digits rest → Fails is_digit rest
stops_fails digits [] s = tt
stops_fails digits (b ∷ bs) s = s

stops_wrong : (digits rest : List ℕ) → digits_in (digits ++ rest) ≡ length digits → Stops digits rest → is_wrong (digits ++ rest) ≡ true
stops_wrong digits [] n s = wrong_none (digits ++ []) (n ∙ ap length s)
stops_wrong digits (b ∷ bs) n s = wrong_behind (digits ++ (b ∷ bs)) (omega (arith, n, length-append digits (b ∷ bs)))

right_all : (ds : List ℕ) → is_wrong ds ≡ false → (1 ≤ length ds) × Passing is_digit ds
right_all ds e =
    let p = or_false (eqb (digits_in ds) 0) (ltb (digits_in ds) (length ds)) e in
    let some = eqb-false (digits_in ds) 0 p.0 in
    let all = ltb-false (digits_in ds) (length ds) p.1 in
    let size : length ds ≡ digits_in ds = omega (arith, front_length is_digit ds) in
    let is : ds ≡ front is_digit ds = sym (take-length ds) ∙ ap (λ (k : ℕ). take k ds) size ∙ take_front is_digit ds in
    (omega (arith, some), subst (Passing is_digit) (sym is) (front_each is_digit ds))

module _ (minus : Bool) (ds : List ℕ) where
  bad_why : is_bad minus ds ≡ true → (10 < length ds) ⊎ (WordSized (signed minus (decimal 0 ds)) → ⊥)
  bad_why e = go (or_true (ltb 10 (length ds)) (not (fits_word (signed minus (decimal 0 ds)))) e)
    where
      go : (ltb 10 (length ds) ≡ true) ⊎ (not (fits_word (signed minus (decimal 0 ds))) ≡ true)
          → (10 < length ds) ⊎ (WordSized (signed minus (decimal 0 ds)) → ⊥)
      go (inl u) = inl (ltb-true 10 (length ds) u)
      go (inr u) = inr (λ r. false≢true (sym (ap not (true_range (signed minus (decimal 0 ds)) r)) ∙ u))

  good_why : is_bad minus ds ≡ false → (length ds ≤ 10) × WordSized (signed minus (decimal 0 ds))
  good_why e =
      let p = or_false (ltb 10 (length ds)) (not (fits_word (signed minus (decimal 0 ds)))) e in
      (ltb-false 10 (length ds) p.0, range_true (signed minus (decimal 0 ds)) (not-false (fits_word (signed minus (decimal 0 ds))) p.1))

-- ── what a token says ──
-- the form of a token that says this at a place
abbrev pub Says : ℕ → List ℕ → Read ℤ → Type 0
Says place token (refused WrongByte i) = (before : ℕ) × Wrong token before × (i ≡ place + before)
Says place token (refused BadNumber i) = Bad token × (i ≡ place)
Says place token (refused TooLong i) = ⊥
Says place token (refused NoRoom i) = ⊥
Says place token (got z) = Allowed token z

module _ (place : ℕ) (token : List ℕ) where
  pub token_says : Says place token (value_of (placed place token))
  unfolding number_of
  token_says = go (is_wrong (behind_minus token)) (is_bad (has_minus token) (behind_minus token)) refl refl
    where
      go : (w b : Bool) → is_wrong (behind_minus token) ≡ w → is_bad (has_minus token) (behind_minus token) ≡ b
          → Says place token (judged w b (has_minus token) place (behind_minus token))
      go true b u v =
          let ds = behind_minus token in (
            length (sign (has_minus token)) + digits_in ds,
            record {
              minus = has_minus token;
              opens = refl;
              digits = front is_digit ds;
              rest = drop (digits_in ds) ds;
              spelled = sign_back token ∙ ap (λ (l : List ℕ). sign (has_minus token) ++ l) (front_splits is_digit ds);
              each = front_each is_digit ds;
              stops = wrong_stops ds u;
              size = refl;
            },
            omega (arith, sign_length (has_minus token)),
          )
      go false true u v =
          let r = right_all (behind_minus token) u in (
            record {
              minus = has_minus token;
              digits = behind_minus token;
              spelled = sign_back token;
              each = r.1;
              some = r.0;
              bad = bad_why (has_minus token) (behind_minus token) v;
            },
            refl,
          )
      go false false u v =
          let r = right_all (behind_minus token) u in
          let g = good_why (has_minus token) (behind_minus token) v in
          record {
            minus = has_minus token;
            digits = behind_minus token;
            spelled = sign_back token;
            each = r.1;
            some = r.0;
            few = g.0;
            value = refl;
            range = g.1;
          }

  -- what the token says by its sign and what stands behind it
  number_of_lem : (minus : Bool) (l : List ℕ) → has_minus token ≡ minus → token ≡ sign minus ++ l → value_of (placed place token) ≡ number_of minus place l
  number_of_lem minus l h e = ap (λ (m : Bool). number_of m place (behind_minus token)) h ∙ ap (number_of minus place) (behind_sign token minus l h e)

  module _ (minus : Bool) (digits : List ℕ) (spelled : token ≡ sign minus ++ digits) (each : Passing is_digit digits) (some : 1 ≤ length digits) where
    all_digits : is_wrong digits ≡ false
    all_digits =
        let n : digits_in digits ≡ length digits = ap length (ap (front is_digit) (sym (append-nil digits)) ∙ each_front is_digit digits [] each tt) in
        right digits (λ e. omega arith) (omega arith)

    judged_digits : {b : Bool} → is_bad minus digits ≡ b → value_of (placed place token) ≡ judged false b minus place digits
    judged_digits v =
        number_of_lem minus digits (ap has_minus spelled ∙ opens_digits minus digits each some) spelled
        ∙ judged_by_lem digits minus place all_digits v

  pub says_only : (x : Read ℤ) → Says place token x → value_of (placed place token) ≡ x
  says_only (refused WrongByte i) (before, w, e) =
      let l = w.digits ++ w.rest in
      let fails = stops_fails w.digits w.rest w.stops in
      let n : digits_in l ≡ length w.digits = ap length (each_front is_digit w.digits w.rest w.each fails) in
      number_of_lem w.minus l w.opens w.spelled
      ∙ judged_by_lem l w.minus place (stops_wrong w.digits w.rest n w.stops) refl
      ∙ ap (refused WrongByte) (omega (arith, n, e, w.size, sign_length w.minus))
  says_only (refused BadNumber i) (b, e) =
      judged_digits b.minus b.digits b.spelled b.each b.some (why b.bad)
      ∙ ap (refused BadNumber) (sym e)
    where
      why : (10 < length b.digits) ⊎ (WordSized (signed b.minus (decimal 0 b.digits)) → ⊥) → is_bad b.minus b.digits ≡ true
      why (inl h) = bad_many b.digits b.minus h
      why (inr h) = bad_value b.digits b.minus (out_of_range (signed b.minus (decimal 0 b.digits)) h)
  says_only (refused TooLong i) s = absurd s
  says_only (refused NoRoom i) s = absurd s
  says_only (got z) a =
      let range = true_range (signed a.minus (decimal 0 a.digits)) (subst WordSized a.value a.range) in
      judged_digits a.minus a.digits a.spelled a.each a.some (good a.digits a.minus a.few range)
      ∙ ap got (sym a.value)
