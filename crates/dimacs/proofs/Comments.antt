-- Comment lines and separators before the header: exactly these are passed over.
--
-- In order: where a byte leads (`spot_of`, `separator_spot`, `starts`); such lines are passed over (`lead_length_lem`) up to a token that is no
-- comment (`token_begins`), or the text's end (`none_begins`), and what is read begins there (`lead_tokens`, `behind_lead`). And what is
-- passed over is such lines, with no comment behind them: what stands ahead of a place, outside a comment (`Begins`, `Ahead`) and in one
-- (`InComment`); one byte further; the whole text (`leading`), by induction over the bytes that are left, for each spot that the reader may
-- be in. The line end that closes the text ends its last comment. Assumes nothing.
use mathlib.Core.Path.{◌≡◌, refl, sym, ◌∙◌, ap, subst}
use mathlib.Core.Bool.{Bool, true, false, cond}
use mathlib.Core.List.{List, [], ◌∷◌, ◌++◌, append_assoc}
use Prim.Native.Nat.{ℕ, suc, ◌+◌}
use native.Mathlib.Omega.{arith}
use lib.ListN.{length, drop, length-append}
use lib.Seq.{drop-append_seam}
use lib.Dec.{eqb}
use borrow.Author.Tests.{eqb-true, eqb-false, not-true}
use Rattle.lists.specs.Lists.{Each}
use Rattle.lists.proofs.Cases.{both}
use Rattle.typed.specs.Text.{is_separator, tokens_from, tokens_at}
use Rattle.dimacs.specs.declared.lead.Spot.{Spot}
use Rattle.dimacs.specs.declared.lead.Spot.TheVariants.{LineStart, Blank, Comment, TokenStart}
use Rattle.dimacs.specs.File.{line_byte, spot_after, passing, lead_length}
use Rattle.dimacs.specs.Standing.{lined, Lead, nothing, separator, comment, BehindLead}
use Rattle.dimacs.specs.Reasons.{TokenHere, NoComment}
use Rattle.dimacs.proofs.LeadEnds.{line_end_lem, line_blank, line_token, comment_not, GoesOn, line_start, blank, passes_one}

-- ── where a byte leads ──
-- where a line begins, and where none does
abbrev pub spot_of : (line : Bool) → Spot
spot_of true = LineStart
spot_of false = Blank

goes_on : (line : Bool) → GoesOn (spot_of line)
goes_on true = line_start
goes_on false = blank

line_spot : (b : ℕ) → is_separator b ≡ true → spot_of (eqb b 10) ≡ line_byte b
line_spot b e = go (eqb b 10) refl
  where
    go : (t : Bool) → eqb b 10 ≡ t → spot_of t ≡ line_byte b
    go true q = line_end_lem b (eqb-true b 10 q)
    go false q = line_blank b (eqb-false b 10 q) e

separator_spot : (line : Bool) (b : ℕ) → is_separator b ≡ true → spot_of (eqb b 10) ≡ spot_after (spot_of line) b
separator_spot true b e = comment_not b LineStart refl (λ q. both e (ap is_separator q)) (line_spot b e)
separator_spot false b e = line_spot b e

-- a token that is no comment begins
starts : (line : Bool) (b : ℕ) (bs : List ℕ) → is_separator b ≡ false → NoComment line (b ∷ bs) → TokenStart ≡ spot_after (spot_of line) b
starts line b bs e n = go line n
  where
    token : TokenStart ≡ line_byte b
    token = line_token b (λ q. both (ap is_separator q) e) e

    go : (line : Bool) → NoComment line (b ∷ bs) → TokenStart ≡ spot_after (spot_of line) b
    go true n = comment_not b LineStart refl n token
    go false n = token

-- ── such lines are passed over ──
one_byte_length : (spot next : Spot) (b : ℕ) (bs : List ℕ) → next ≡ spot_after spot b → lead_length spot (b ∷ bs) ≡ passing next (lead_length next bs)
unfolding lead_length
one_byte_length spot next b bs e = ap (λ (next : Spot). passing next (lead_length next bs)) (sym e)

separator_length : (line : Bool) (b : ℕ) (bs : List ℕ) → is_separator b ≡ true → lead_length (spot_of line) (b ∷ bs) ≡ suc (lead_length (spot_of (eqb b 10)) bs)
separator_length line b bs e =
    one_byte_length (spot_of line) (spot_of (eqb b 10)) b bs (separator_spot line b e)
    ∙ passes_one (lead_length (spot_of (eqb b 10)) bs) (goes_on (eqb b 10))

comment_length : (l bs : List ℕ) → Each (λ b. eqb b 10 ≡ false) l → lead_length Comment (l ++ (10 ∷ bs)) ≡ suc (length l) + lead_length LineStart bs
unfolding lead_length
comment_length [] bs e = omega arith
comment_length (b ∷ l) bs e = rw e.0 (ap suc (comment_length l bs e.1) ∙ omega arith)

comment_line_lem : (l bs : List ℕ) → Each (λ b. eqb b 10 ≡ false) l → lead_length LineStart (99 ∷ (l ++ (10 ∷ bs))) ≡ suc (suc (length l)) + lead_length LineStart bs
unfolding lead_length
comment_line_lem l bs e = ap suc (comment_length l bs e) ∙ omega arith

lead_length_lem : {line ends : Bool} {before : List ℕ} → Lead line before ends → (rest : List ℕ)
    → lead_length (spot_of line) (before ++ rest) ≡ length before + lead_length (spot_of ends) rest
lead_length_lem nothing rest = omega arith
lead_length_lem (separator {line} {ends} {b} {bs} e l) rest = separator_length line b (bs ++ rest) e ∙ ap suc (lead_length_lem l rest) ∙ omega arith
lead_length_lem (comment {ends} l {bs} each c) rest =
    ap (λ (x : List ℕ). lead_length LineStart (99 ∷ x)) (append_assoc l (10 ∷ bs) rest)
    ∙ comment_line_lem l (bs ++ rest) each
    ∙ omega (arith, lead_length_lem c rest, length-append l (10 ∷ bs))

pub token_begins : (ends : Bool) (rest token : List ℕ) → TokenHere rest token → NoComment ends token → lead_length (spot_of ends) rest ≡ 0
token_begins ends rest [] here n = absurd (omega (arith, here.some))
token_begins ends rest (b ∷ bs) here n =
    ap (lead_length (spot_of ends)) here.whole
    ∙ one_byte_length (spot_of ends) TokenStart b (bs ++ (here.b ∷ here.after)) (starts ends b bs (not-true (is_separator b) here.bytes.0) n)

pub none_begins : (ends : Bool) → lead_length (spot_of ends) [] ≡ 0
unfolding lead_length
none_begins ends = refl

module _ {text : List ℕ} {ends : Bool} {place : ℕ} {rest : List ℕ} (l : BehindLead text ends place rest) where
  pub lead_tokens : tokens_at text place ≡ tokens_from true place rest
  lead_tokens =
      ap (tokens_from true place)
      (ap (drop place) l.whole ∙ ap (λ (k : ℕ). drop k (l.before ++ rest)) l.size ∙ drop-append_seam l.before rest)

  pub behind_lead : lead_length (spot_of ends) rest ≡ 0 → tokens_at text (lead_length LineStart text) ≡ tokens_from true place rest
  behind_lead e =
      let n : lead_length LineStart text ≡ place =
      ap (lead_length LineStart) l.whole ∙ lead_length_lem l.lead rest ∙ omega (arith, e, l.size) in
      ap (tokens_at text) n ∙ lead_tokens

-- ── what is passed over is such lines ──
-- the text ends, or a token begins, which is no comment
abbrev pub Begins : (line : Bool) → List ℕ → Type 0
Begins line [] = Unit {0}
Begins line (b ∷ bs) = (is_separator b ≡ false) × NoComment line (b ∷ bs)

-- so many bytes of a list, read from where a line begins (or none does), are separators and comment lines
pub record Ahead (line : Bool) (l : List ℕ) (n : ℕ) : Type 0 where
  pub ends : Bool
  pub before : List ℕ
  pub rest : List ℕ
  pub lead : Lead line before ends
  pub whole : l ≡ before ++ rest
  pub size : n ≡ length before
  pub begins : Begins ends rest

-- in a comment, its line ends first
record InComment (l : List ℕ) (n : ℕ) : Type 0 where
  pub bytes : List ℕ
  pub others : List ℕ
  pub each : Each (λ b. eqb b 10 ≡ false) bytes
  pub whole : l ≡ bytes ++ (10 ∷ others)
  pub behind : ℕ
  pub ahead : Ahead true others behind
  pub size : n ≡ suc (length bytes + behind)

abbrev AheadOf : Spot → List ℕ → ℕ → Type 0
AheadOf LineStart l n = Ahead true l n
AheadOf Blank l n = Ahead false l n
AheadOf Comment l n = InComment l n
AheadOf TokenStart l n = Unit {0}

-- one byte further
at_end : (line : Bool) → Ahead line [] 0
at_end line = record { ends = line; before = []; rest = []; lead = nothing; whole = refl; size = refl; begins = tt }

at_token : (line : Bool) (b : ℕ) (bs : List ℕ) → Begins line (b ∷ bs) → Ahead line (b ∷ bs) 0
at_token line b bs h = record { ends = line; before = []; rest = b ∷ bs; lead = nothing; whole = refl; size = refl; begins = h }

over_separator : (line : Bool) (b : ℕ) (bs : List ℕ) (n : ℕ) → is_separator b ≡ true → Ahead (eqb b 10) bs n → Ahead line (b ∷ bs) (suc n)
over_separator line b bs n e a = record {
  ends = a.ends;
  before = b ∷ a.before;
  rest = a.rest;
  lead = separator e a.lead;
  whole = ap (λ (l : List ℕ). b ∷ l) a.whole;
  size = ap suc a.size;
  begins = a.begins;
}

into_comment : (bs : List ℕ) (n : ℕ) → InComment bs n → Ahead true (99 ∷ bs) (suc n)
into_comment bs n c = record {
  ends = c.ahead.ends;
  before = 99 ∷ (c.bytes ++ (10 ∷ c.ahead.before));
  rest = c.ahead.rest;
  lead = comment c.bytes c.each c.ahead.lead;
  whole =
      ap (λ (l : List ℕ). 99 ∷ l)
      (c.whole
      ∙ ap (λ (l : List ℕ). c.bytes ++ (10 ∷ l)) c.ahead.whole
      ∙ sym (append_assoc c.bytes (10 ∷ c.ahead.before) c.ahead.rest));
  size = omega (arith, c.size, c.ahead.size, length-append c.bytes (10 ∷ c.ahead.before));
  begins = c.ahead.begins;
}

in_comment : (b : ℕ) (bs : List ℕ) (n : ℕ) → eqb b 10 ≡ false → InComment bs n → InComment (b ∷ bs) (suc n)
in_comment b bs n e c = record {
  bytes = b ∷ c.bytes;
  others = c.others;
  each = (e, c.each);
  whole = ap (λ (l : List ℕ). b ∷ l) c.whole;
  behind = c.behind;
  ahead = c.ahead;
  size = omega (arith, c.size);
}

line_ends : (bs : List ℕ) (n : ℕ) → Ahead true bs n → InComment (10 ∷ bs) (suc n)
line_ends bs n a = record { bytes = []; others = bs; each = tt; whole = refl; behind = n; ahead = a; size = omega arith }

-- the whole text
module _ (b : ℕ) (bs : List ℕ) (next : (spot : Spot) → AheadOf spot bs (lead_length spot bs)) where
  -- outside a comment
  in_line : (line : Bool) → NoComment line (b ∷ bs) → Ahead line (b ∷ bs) (passing (line_byte b) (lead_length (line_byte b) bs))
  in_line line h = go (eqb b 10) (is_separator b) refl refl
    where
      go : (x y : Bool) → eqb b 10 ≡ x → is_separator b ≡ y
          → Ahead line (b ∷ bs)
          (passing (cond x LineStart (cond y Blank TokenStart)) (lead_length (cond x LineStart (cond y Blank TokenStart)) bs))
      go true y e f =
          over_separator line b bs (lead_length LineStart bs) (ap is_separator (eqb-true b 10 e))
          (subst (λ (line : Bool). Ahead line bs (lead_length LineStart bs)) (sym e) (next LineStart))
      go false true e f =
          over_separator line b bs (lead_length Blank bs) f
          (subst (λ (line : Bool). Ahead line bs (lead_length Blank bs)) (sym e) (next Blank))
      go false false e f = at_token line b bs (f, h)

  at_line_start : Ahead true (b ∷ bs) (lead_length LineStart (b ∷ bs))
  unfolding lead_length
  at_line_start = go (eqb b 99) refl
    where
      go : (x : Bool) → eqb b 99 ≡ x
          → Ahead true (b ∷ bs) (passing (cond x Comment (line_byte b)) (lead_length (cond x Comment (line_byte b)) bs))
      go true e =
          subst (λ (b : ℕ). Ahead true (b ∷ bs) (suc (lead_length Comment bs))) (sym (eqb-true b 99 e))
          (into_comment bs (lead_length Comment bs) (next Comment))
      go false e = in_line true (eqb-false b 99 e)

  at_comment : InComment (b ∷ bs) (lead_length Comment (b ∷ bs))
  unfolding lead_length
  at_comment = go (eqb b 10) refl
    where
      go : (x : Bool) → eqb b 10 ≡ x
          → InComment (b ∷ bs) (passing (cond x LineStart Comment) (lead_length (cond x LineStart Comment) bs))
      go true e =
          subst (λ (b : ℕ). InComment (b ∷ bs) (suc (lead_length LineStart bs))) (sym (eqb-true b 10 e))
          (line_ends bs (lead_length LineStart bs) (next LineStart))
      go false e = in_comment b bs (lead_length Comment bs) e (next Comment)

  one_byte : (spot : Spot) → AheadOf spot (b ∷ bs) (lead_length spot (b ∷ bs))
  unfolding lead_length
  one_byte LineStart = at_line_start
  one_byte Blank = in_line false tt
  one_byte Comment = at_comment
  one_byte TokenStart = tt

ahead : (l : List ℕ) (spot : Spot) → AheadOf spot (lined l) (lead_length spot (lined l))
unfolding lead_length
ahead [] LineStart = over_separator true 10 [] 0 refl (at_end true)
ahead [] Blank = over_separator false 10 [] 0 refl (at_end true)
ahead [] Comment = line_ends [] 0 (at_end true)
ahead [] TokenStart = tt
ahead (b ∷ bs) spot = one_byte b (lined bs) (ahead bs) spot

pub leading : (text : List ℕ) → Ahead true (lined text) (lead_length LineStart (lined text))
leading text = ahead text LineStart
