-- The bytes before the first token, as the code goes along them.
--
-- In order: a byte of a line (`line_end_lem`, `line_blank`, `line_token`), and from the start of one (`comment_not`); a spot that is no
-- token's start (`GoesOn`, `goes_on`, `passes_one`); a loop along the bytes (`AlongLead`, `lead_over`, `lead_token`, `lead_more`).
-- Assumes nothing.
use mathlib.Core.Path.{◌≡◌, refl, sym, ◌∙◌, ap}
use mathlib.Core.Bool.{Bool, true, false, cond}
use mathlib.Core.List.{List}
use Prim.Native.Nat.{ℕ, suc, ◌+◌, ◌≤◌, ◌<◌}
use native.Mathlib.Omega.{arith}
use native.Mathlib.Numerals.{add-one}
use lib.ListN.{length, get_or, drop, drop_of_length-le}
use lib.Seq.{drop-cons}
use borrow.Author.Tests.{eq-eqb, ne_eqb}
use Rattle.typed.specs.Text.{is_separator}
use Rattle.dimacs.specs.declared.lead.Spot.{Spot}
use Rattle.dimacs.specs.declared.lead.Spot.TheVariants.{LineStart, Blank, Comment, TokenStart}
use Rattle.dimacs.specs.File.{line_byte, spot_after, passing, lead_length}

-- ── one byte ──
module _ (b : ℕ) where
  pub line_end_lem : b ≡ 10 → LineStart ≡ line_byte b
  line_end_lem e = rw (eq-eqb b 10 e)

  no_line_end : (b ≡ 10 → ⊥) → line_byte b ≡ cond (is_separator b) Blank TokenStart
  no_line_end n = ap (λ (t : Bool). cond t LineStart (cond (is_separator b) Blank TokenStart)) (ne_eqb b 10 n)

  pub line_blank : (b ≡ 10 → ⊥) → is_separator b ≡ true → Blank ≡ line_byte b
  line_blank n e = sym (no_line_end n ∙ ap (λ (t : Bool). cond t Blank TokenStart) e)

  pub line_token : (b ≡ 10 → ⊥) → is_separator b ≡ false → TokenStart ≡ line_byte b
  line_token n e = sym (no_line_end n ∙ ap (λ (t : Bool). cond t Blank TokenStart) e)

  module _ (spot : Spot) where
    pub comment_not : {r : Spot} → spot ≡ LineStart → (b ≡ 99 → ⊥) → r ≡ line_byte b → r ≡ spot_after spot b
    comment_not s n e = rw (s, ne_eqb b 99 n) e

-- a spot that is no token's start
pub data GoesOn : Spot → Type 0 where
  line_start : GoesOn LineStart
  blank : GoesOn Blank
  comment : GoesOn Comment

goes_on : (s : Spot) → (s ≡ TokenStart → ⊥) → GoesOn s
goes_on LineStart n = line_start
goes_on Blank n = blank
goes_on Comment n = comment
goes_on TokenStart n = absurd (n refl)

pub passes_one : {spot : Spot} (k : ℕ) → GoesOn spot → passing spot k ≡ suc k
passes_one k line_start = refl
passes_one k blank = refl
passes_one k comment = refl

-- ── along the bytes ──
-- i bytes were passed, and led to a spot
pub record AlongLead (text : List ℕ) (spot : Spot) (i : ℕ) : Type 0 where
  pub rest : i + lead_length spot (drop i text) ≡ lead_length LineStart text

module _ {text : List ℕ} {spot : Spot} {i : ℕ} (a : AlongLead text spot i) where
  pub lead_over : length text ≤ i → i ≡ lead_length LineStart text
  unfolding lead_length
  lead_over h = let e : lead_length spot (drop i text) ≡ 0 = ap (lead_length spot) (drop_of_length-le text h) in omega (arith, a.rest)

  module _ {next : Spot} (h : i < length text) (e : next ≡ spot_after spot (get_or text i 0)) where
    one : lead_length spot (drop i text) ≡ passing next (lead_length next (drop (i + 1) text))
    unfolding lead_length
    one = rw (drop-cons text i 0 h, add-one i, e)

    pub lead_token : next ≡ TokenStart → i ≡ lead_length LineStart text
    lead_token t = let z : lead_length spot (drop i text) ≡ 0 = one ∙ ap (λ (s : Spot). passing s (lead_length s (drop (i + 1) text))) t in omega (arith, a.rest)

    pub lead_more : (next ≡ TokenStart → ⊥) → AlongLead text next (i + 1)
    lead_more n = record { rest = omega (arith, one, passes_one (lead_length next (drop (i + 1) text)) (goes_on next n), a.rest) }
