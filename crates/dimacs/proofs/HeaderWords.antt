-- The header's two words, as the code looks for them.
--
-- In order: the same bytes are the same list (`same_bytes_lem`, `other_bytes`); the next token is the word or is not (`word_same`,
-- `word_other`); both words, with what is read behind `p` (`after_p`, `header_none`, `header_behind`). Assumes nothing.
use mathlib.Core.Path.{◌≡◌, refl, sym, ◌∙◌, ap}
use mathlib.Core.Logic.{◌≢◌}
use mathlib.Core.Bool.{Bool, true, false, cond, false≢true}
use mathlib.Core.List.{List, [], ◌∷◌}
use Prim.Native.Nat.{ℕ, ◌-◌}
use lib.ListN.{length, take, drop}
use lib.Dec.{eqb}
use borrow.Author.Tests.{eqb-true, eq-eqb}
use Rattle.std.proofs.Common.{Some, Result, Ok, Err}
use Rattle.refusals.specs.declared.Refused.{Refused}
use Rattle.lists.specs.Bytes.{bytes}
use Rattle.lists.proofs.Cases.{both, fails, and_both}
use Rattle.typed.specs.Text.{Token, tokens_at}
use Rattle.typed.specs.Next.{span_of}
use Rattle.typed.specs.declared.Span.{Span}
use Rattle.typed.proofs.Splitting.{span_token}
use Rattle.dimacs.specs.declared.Flaw.{Flaw}
use Rattle.dimacs.specs.declared.Flaw.TheVariants.{NoHeader}
use Rattle.dimacs.specs.declared.lead.Spot.TheVariants.{LineStart}
use Rattle.dimacs.specs.Stage.{variables}
use Rattle.dimacs.specs.File.{Parsed, refused, lead_length, read_numbers, same_bytes, expected, read_header}
use Rattle.dimacs.specs.Steps.{WordIs, HeaderIs}

-- ── the same bytes ──
pub same_bytes_lem : (word l : List ℕ) → same_bytes word l ≡ true → l ≡ word
unfolding same_bytes
same_bytes_lem [] [] e = refl
same_bytes_lem [] (c ∷ cs) e = absurd (false≢true e)
same_bytes_lem (b ∷ bs) [] e = absurd (false≢true e)
same_bytes_lem (b ∷ bs) (c ∷ cs) e =
    let (first, others) = and_both (eqb b c) (same_bytes bs cs) e in
    ap (λ (b : ℕ). b ∷ cs) (sym (eqb-true b c first)) ∙ ap (λ (l : List ℕ). b ∷ l) (same_bytes_lem bs cs others)

same_self : (word : List ℕ) → same_bytes word word ≡ true
unfolding same_bytes
same_self [] = refl
same_self (b ∷ bs) = rw (eq-eqb b b refl) (same_self bs)

pub other_bytes : (word l : List ℕ) → same_bytes word l ≡ false → l ≢ word
other_bytes word l h e = both (ap (same_bytes word) e ∙ same_self word) h

-- ── one word ──
module _ (text : List ℕ) (from : ℕ) (word : List ℕ) {s : Span} (e : Some s ≡ span_of (tokens_at text from)) where
  found : (next : List Token → Parsed) {same : Bool} → same_bytes word (take (s.end - s.start) (drop s.start text)) ≡ same
      → expected word (length text) (tokens_at text from) next ≡ cond same (next (tokens_at text s.end)) (refused NoHeader s.start)
  found next q =
      ap (λ (ts : List Token). expected word (length text) ts next) (span_token text from e).first
      ∙ ap (λ (same : Bool). cond same (next (tokens_at text s.end)) (refused NoHeader s.start)) q

  pub word_same : take (s.end - s.start) (drop s.start text) ≡ word → WordIs text from word (Ok s.end)
  word_same q next = found next (ap (same_bytes word) q ∙ same_self word)

  pub word_other : (take (s.end - s.start) (drop s.start text) ≡ word → ⊥) → WordIs text from word (Err (record { kind = NoHeader; place = s.start }))
  word_other q next = found next (fails (λ t. q (same_bytes_lem word _ t)))

-- ── both words ──
-- what is read of the tokens behind `p`
abbrev pub after_p : (limit end : ℕ) → List Token → Parsed
after_p limit end ts = expected (bytes "cnf") end ts λ ts. read_numbers limit end variables ts

module _ (text : List ℕ) (lead : ℕ) (e : lead ≡ lead_length LineStart text) where
  first : {x : Parsed} (limit : ℕ) → expected (bytes "p") (length text) (tokens_at text lead) (after_p limit (length text)) ≡ x
      → read_header limit (length text) (tokens_at text (lead_length LineStart text)) ≡ x
  unfolding read_header
  first limit q = ap (λ (k : ℕ). read_header limit (length text) (tokens_at text k)) (sym e) ∙ q

  pub header_none : (r : Refused Flaw) → WordIs text lead (bytes "p") (Err r) → HeaderIs text (Err r)
  header_none r w limit = first limit (w (after_p limit (length text)))

  pub header_behind : (from : ℕ) → WordIs text lead (bytes "p") (Ok from) → (s : Result ℕ (Refused Flaw)) → WordIs text from (bytes "cnf") s → HeaderIs text s
  header_behind from w (Ok end) v = λ limit. first limit (w (after_p limit (length text)) ∙ v (λ ts. read_numbers limit (length text) variables ts))
  header_behind from w (Err r) v = λ limit. first limit (w (after_p limit (length text)) ∙ v (λ ts. read_numbers limit (length text) variables ts))
