-- The answer of `read`: what the two passes come to.
--
-- In order: an answer that is the reader's meets the contract (`reads_so`); a text that is too long (`too_long_lem`); where the scan told so many
-- words, they were read (`Scanned`) and fill as many places (`fills`); a refusal (`scanned_refused`), and what the fill leaves
-- (`filled_words`). Assumes nothing.
use mathlib.Core.Path.{◌≡◌, refl, sym, ◌∙◌, ap, subst}
use mathlib.Core.List.{List, ◌++◌}
use Prim.Native.Nat.{ℕ, ◌≤◌, ◌<◌}
use lib.ListN.{length, take, drop}
use lib.IntN.{ℤ}
use Rattle.std.proofs.Common.{Result, Ok, Err, arith}
use Rattle.refusals.specs.declared.Refused.{Refused}
use Rattle.lists.proofs.InFront.{front_stands}
use Rattle.typed.specs.Text.{Read, refused, got, tokens, read_tokens, read_text}
use Rattle.typed.specs.Allowed.{Accepted}
use Rattle.typed.specs.Answer.{reading_of, numbers_of, room_after, Justified, Reads}
use Rattle.typed.specs.declared.Mistake.{Mistake}
use Rattle.typed.specs.declared.Mistake.TheVariants.{TooLong}
use Rattle.typed.proofs.Taking.{enough}
use Rattle.typed.proofs.Limits.{short_enough, over_long}
use Rattle.typed.proofs.Verdicts.{Verdict, verdict}

-- ── the reader's answer ──
justified : (text : List ℕ) (before after : List ℤ) (x : Read (List ℤ)) → Verdict text (length before) x → after ≡ room_after x before → Justified text (length before) (reading_of x) after
justified text before after (refused m place) v room = v
justified text before after (got words) v room = subst (Accepted text (length before)) (sym (ap (take (length words)) room ∙ front_stands words before)) v

reads_so : {text : List ℕ} {before after : List ℤ} {r : Result ℕ (Refused Mistake)} → r ≡ reading_of (read_text text (length before)) → after ≡ room_after (read_text text (length before)) before
    → Reads text before r after
reads_so {text} {before} {after} e room = record {
  says = ap numbers_of e;
  room = room;
  reason = subst (λ (r : Result ℕ (Refused Mistake)). Justified text (length before) r after) (sym e) (justified text before after (read_text text (length before)) (verdict text (length before)) room);
}

pub too_long_lem : {text : List ℕ} {before : List ℤ} → 60000 < length text → Reads text before (Err (record { kind = TooLong; place = 60000 })) before
too_long_lem {text} {before} h = let e = over_long text (length before) h in reads_so (ap reading_of e) (ap (λ (x : Read (List ℤ)). room_after x before) e)

-- ── the two passes ──
-- where the answer is a number of words, they were read
pub record Scanned (text : List ℕ) (room w : ℕ) : Type 0 where
  pub words : List ℤ
  pub read : read_tokens room (tokens text) ≡ got words
  pub size : length words ≡ w

scanned : {text : List ℕ} {room w : ℕ} → Ok w ≡ reading_of (read_tokens room (tokens text)) → Scanned text room w
scanned {text} {room} {w} e = go (read_tokens room (tokens text)) refl e
  where
    go : (x : Read (List ℤ)) → read_tokens room (tokens text) ≡ x → Ok w ≡ reading_of x → Scanned text room w
    go (refused m place) x e = absurd (cc)
    go (got words) x e = record { words = words; read = x; size = cc }

-- where it is a refusal, the room is as it was
kept : (x : Read (List ℤ)) {r : Refused Mistake} (before : List ℤ) → Err r ≡ reading_of x → before ≡ room_after x before
kept (refused m place) before e = refl
kept (got words) before e = absurd (cc)

pub fills : (text : List ℕ) (room : ℕ) {w all : ℕ} → Ok w ≡ reading_of (read_tokens room (tokens text)) → all ≡ w → reading_of (read_tokens all (tokens text)) ≡ Ok all
fills text room {w} {all} e h =
    let s = scanned e in
    ap reading_of (enough room all (tokens text) s.words s.read (omega (arith, s.size))) ∙ ap Ok (omega (arith, s.size))

module _ {text : List ℕ} {before : List ℤ} (h : length text ≤ 60000) where
  answers : {after : List ℤ} {r : Result ℕ (Refused Mistake)} → r ≡ reading_of (read_tokens (length before) (tokens text))
      → after ≡ room_after (read_tokens (length before) (tokens text)) before → Reads text before r after
  answers e room =
      let i = short_enough text (length before) h in
      reads_so (e ∙ ap reading_of i) (room ∙ ap (λ (x : Read (List ℤ)). room_after x before) i)

  pub scanned_refused : {r : Refused Mistake} → Err r ≡ reading_of (read_tokens (length before) (tokens text)) → Reads text before (Err r) before
  scanned_refused e = answers e (kept (read_tokens (length before) (tokens text)) before e)

  pub filled_words : {w all : ℕ} {filled : List ℤ} → Ok w ≡ reading_of (read_tokens (length before) (tokens text)) → all ≡ w
      → read_tokens all (tokens text) ≡ got filled → Reads text before (Ok w) (filled ++ drop w before)
  filled_words {w} {all} {filled} e k f =
      let s = scanned e in
      let both : got s.words ≡ got filled = sym (enough (length before) all (tokens text) s.words s.read (omega (arith, s.size))) ∙ f in
      let same : s.words ≡ filled = cc in
      answers e
      (ap (λ (n : ℕ). filled ++ drop n before) (sym s.size)
      ∙ ap (λ (l : List ℤ). l ++ drop (length s.words) before) (sym same)
      ∙ sym (ap (λ (x : Read (List ℤ)). room_after x before) s.read))
