-- A text is accepted exactly if it spells words that fit the room, and each refusal is given for its reason and only for it.
--
-- In order: the verdict on a text (`Verdict`); from a place that is reached, where the text ends, a separator stands, or a token
-- (`from_end`, `from_separator`, `from_token`); the reader's result has the verdict (`verdict`), and nothing else has it
-- (`verdict_only`); the two theorems (`accepted_exactly`, `refused_exactly`). Assumes nothing.
use mathlib.Core.Path.{◌≡◌, refl, sym, ◌∙◌, ap, subst}
use mathlib.Core.Logic.{◌↔◌}
use mathlib.Core.Bool.{Bool, true, false}
use mathlib.Core.List.{List, [], ◌∷◌, ◌++◌, append-nil}
use Prim.Native.Nat.{ℕ, zero, suc, ◌+◌, ◌-◌, ◌≤◌, ◌<◌}
use native.Mathlib.Omega.{arith}
use lib.ListN.{length, length-append}
use lib.IntN.{ℤ}
use lib.Dec.{ltb}
use borrow.Author.Tests.{ltb-true, ltb-false}
use Rattle.typed.specs.Text.{Read, refused, got, then, is_separator, Token, tokens_from, value_of, read_tokens, read_text, placed}
use Rattle.typed.specs.Allowed.{Allowed, Closed, nothing, Reached, Spells, ended, last, Accepted}
use Rattle.typed.specs.Reasons.{TokenEnds, TokenAt, Reason}
use Rattle.typed.specs.declared.Mistake.{Mistake}
use Rattle.typed.specs.declared.Mistake.TheVariants.{WrongByte, BadNumber, TooLong, NoRoom}
use Rattle.typed.proofs.Taking.{none_left, got_one, no_room, one_bad}
use Rattle.typed.proofs.Limits.{short_enough, over_long}
use Rattle.typed.proofs.Runs.{run_token, token_run}
use Rattle.typed.proofs.Sayings.{Says, token_says, says_only}
use Rattle.typed.proofs.Reaching.{allowed_bytes, allowed_some, behind, word_behind, skip_one, reached_reads, reached_separator, reached_word}

abbrev pub Verdict : List ℕ → ℕ → Read (List ℤ) → Type 0
Verdict text room (refused m i) = Reason m i text room
Verdict text room (got words) = Accepted text room words

-- the verdict on what is read of some tokens, behind some words; and from a place on
abbrev OfTokens : List ℕ → ℕ → List ℤ → List Token → Type 0
OfTokens text room words ts = Verdict text room (behind words (read_tokens (room - length words) ts))

abbrev From : List ℕ → ℕ → List ℤ → ℕ → List ℕ → Type 0
From text room words place rest = OfTokens text room words (tokens_from true place rest)

-- the verdict from every place that is reached, with fewer bytes left than some number
abbrev Shorter : List ℕ → ℕ → ℕ → Type 0
Shorter text room most =
    (rest : List ℕ) (words : List ℤ) (place : ℕ) → length rest < most → Reached text words place rest → length words ≤ room
    → From text room words place rest

-- no token is left
no_tokens : (room i : ℕ) → read_tokens room (tokens_from true i []) ≡ got []
unfolding tokens_from
no_tokens room i = none_left room

module _ (text : List ℕ) (room : ℕ) (short : length text ≤ 60000) where
  from_end : (words : List ℤ) (place : ℕ) → Spells text words → length words ≤ room → From text room words place []
  from_end words place s h =
      subst (Verdict text room)
      (ap got (sym (append-nil words)) ∙ ap (behind words) (sym (no_tokens (room - length words) place)))
      (record { short = short; fits = h; spells = s })

  module _ (words : List ℤ) (place : ℕ) (h : length words ≤ room) where
    from_separator : (b : ℕ) (bs : List ℕ) → is_separator b ≡ true → From text room words (suc place) bs → From text room words place (b ∷ bs)
    from_separator b bs e v = subst (OfTokens text room words) (sym (skip_one place b bs e)) v

    module _ (token : List ℕ) (here : TokenAt text words place token) where
      -- a token with a mistake
      refuses : (m : Mistake) (i : ℕ) → Says place token (refused m i) → Reason m i text room
      refuses WrongByte i (before, wrong, byte) = record {
        short = short;
        words = words;
        fits = h;
        place = place;
        token = token;
        here = here;
        before = before;
        wrong = wrong;
        byte = byte;
      }
      refuses BadNumber i (bad, e) =
          subst (λ (i : ℕ). Reason BadNumber i text room) (sym e)
          (record { short = short; words = words; fits = h; token = token; here = here; bad = bad })
      refuses TooLong i s = absurd s
      refuses NoRoom i s = absurd s

      -- a token, where each word that it may say has its verdict
      from_token : ((z : ℤ) → Allowed token z → length words < room → From text room (words ++ (z ∷ [])) (place + length token) here.after)
          → From text room words place (token ++ here.after)
      from_token next =
          subst (OfTokens text room words)
          (sym (run_token place token here.after here.some here.bytes here.ends))
          (go (value_of (placed place token)) refl (token_says place token))
        where
          room_for_lem : (z : ℤ) → value_of (placed place token) ≡ got z → Allowed token z → (t : Bool) → ltb (length words) room ≡ t
              → OfTokens text room words (placed place token ∷ tokens_from true (place + length token) here.after)
          room_for_lem z e a true u =
              let l = ltb-true (length words) room u in
              let ts = tokens_from true (place + length token) here.after in
              let k : room - length (words ++ (z ∷ [])) ≡ room - length words - 1 = omega (arith, length-append words (z ∷ [])) in
              let one = got_one (placed place token) ts z e (room - length words) (omega arith) in
              subst (Verdict text room)
              (ap (λ (k : ℕ). behind (words ++ (z ∷ [])) (read_tokens k ts)) k
              ∙ sym (ap (behind words) one ∙ word_behind words z (read_tokens (room - length words - 1) ts)))
              (next z a l)
          room_for_lem z e a false u =
              let l = ltb-false (length words) room u in
              let ts = tokens_from true (place + length token) here.after in
              let t : Token = placed place token in
              let k : room - length words ≡ 0 = omega arith in
              subst (Verdict text room)
              (sym (ap (behind words) (ap (λ (k : ℕ). read_tokens k (t ∷ ts)) k ∙ no_room t ts z e)))
              (record { short = short; words = words; full = omega arith; token = token; here = here; z = z; allowed = a })

          go : (x : Read ℤ) → value_of (placed place token) ≡ x → Says place token x
              → OfTokens text room words (placed place token ∷ tokens_from true (place + length token) here.after)
          go (refused m i) e s =
              let ts = tokens_from true (place + length token) here.after in
              subst (Verdict text room) (sym (ap (behind words) (one_bad (room - length words) (placed place token) ts m i e))) (refuses m i s)
          go (got z) e a = room_for_lem z e a (ltb (length words) room) refl

  -- behind a token that is a word the text ends, or the separator and what stands behind it have their verdict
  module _ (most : ℕ) (shorter : Shorter text room most) {words : List ℤ} {place : ℕ} where
    from_word : (token after : List ℕ) → length (token ++ after) ≤ most → TokenEnds after → Reached text words place (token ++ after)
        → (z : ℤ) → Allowed token z → length words < room → From text room (words ++ (z ∷ [])) (place + length token) after
    from_word token [] n ends r z a f =
        let here = subst (Reached text words place) (append-nil token) r in
        from_end (words ++ (z ∷ [])) (place + length token) (last here a refl) (omega (arith, length-append words (z ∷ [])))
    from_word token (c ∷ cs) n ends r z a f =
        let fits : length (words ++ (z ∷ [])) ≤ room = omega (arith, length-append words (z ∷ [])) in
        from_separator (words ++ (z ∷ [])) (place + length token) fits c cs ends
        (shorter cs (words ++ (z ∷ [])) (suc (place + length token)) (omega (arith, length-append token (c ∷ cs)))
        (reached_word token c cs a ends r) fits)

    from_step : (rest : List ℕ) → length rest ≤ most → Reached text words place rest → length words ≤ room → From text room words place rest
    from_step [] l r h = from_end words place (ended (subst (λ (l : List ℕ). Closed l words) (sym (r.whole ∙ append-nil r.before)) r.closed)) h
    from_step (b ∷ bs) l r h = go (is_separator b) refl
      where
        go : (s : Bool) → is_separator b ≡ s → From text room words place (b ∷ bs)
        go true e = from_separator words place h b bs e (shorter bs words (suc place) (omega arith) (reached_separator e r) h)
        go false e =
            let run = token_run b bs e in
            let reached = subst (Reached text words place) run.whole r in
            let here : TokenAt text words place run.token = record { after = run.after; reached = reached; some = run.some; bytes = run.bytes; ends = run.ends } in
            subst (From text room words place) (sym run.whole)
            (from_token words place h run.token here
            (from_word run.token run.after (omega (arith, ap length run.whole)) run.ends reached))

  from_place : (most : ℕ) → Shorter text room most
  from_place zero rest words place l r h = absurd (omega arith)
  from_place (suc most) rest words place l r h = from_step most (from_place most) rest (omega arith) r h

-- ── the verdict ──
module _ (text : List ℕ) (room : ℕ) where
  pub verdict : Verdict text room (read_text text room)
  verdict = go (ltb 60000 (length text)) refl
    where
      start : Reached text [] 0 text
      start = record { before = []; closed = nothing; whole = refl; size = refl }

      go : (t : Bool) → ltb 60000 (length text) ≡ t → Verdict text room (read_text text room)
      go true u = let l = ltb-true 60000 (length text) u in subst (Verdict text room) (over_long text room l) (record { long = l; place = refl })
      go false u =
          let l = ltb-false 60000 (length text) u in
          subst (Verdict text room)
          (sym (reached_reads start room (omega arith)) ∙ short_enough text room l)
          (from_place text room l (suc (length text)) text [] 0 (omega arith) start (omega arith))

  -- the first token that is no word, or has no room, decides
  decides : {words : List ℤ} {place : ℕ} {token : List ℕ} → length text ≤ 60000 → length words ≤ room → TokenAt text words place token
      → {m : Mistake} {i : ℕ}
      → ((ts : List Token) → read_tokens (room - length words) (placed place token ∷ ts) ≡ refused m i) → read_text text room ≡ refused m i
  decides {words} {place} {token} short fits here says =
      sym (short_enough text room short)
      ∙ reached_reads here.reached room fits
      ∙ ap (λ (ts : List Token). behind words (read_tokens (room - length words) ts))
      (run_token place token here.after here.some here.bytes here.ends)
      ∙ ap (behind words) (says (tokens_from true (place + length token) here.after))

  spells_words : {words : List ℤ} → length text ≤ 60000 → length words ≤ room → Spells text words → read_text text room ≡ got words
  spells_words {words} short fits (ended c) =
      sym (short_enough text room short)
      ∙ reached_reads (record { before = text; closed = c; whole = sym (append-nil text); size = refl }) room fits
      ∙ ap (behind words) (no_tokens (room - length words) (length text))
      ∙ ap got (append-nil words)
  spells_words {words} short fits (last {others} {place} {token} {z} r a e) =
      let n : length words ≡ length others + 1 = ap length e ∙ length-append others (z ∷ []) in
      let t : Token = placed place token in
      let ts = tokens_from true (place + length token) [] in
      sym (short_enough text room short)
      ∙ reached_reads r room (omega arith)
      ∙ ap (λ (l : List ℕ). behind others (read_tokens (room - length others) (tokens_from true place l))) (sym (append-nil token))
      ∙ ap (λ (ts : List Token). behind others (read_tokens (room - length others) ts)) (run_token place token [] (allowed_some a) (allowed_bytes a) tt)
      ∙ ap (behind others) (got_one t ts z (says_only place token (got z) a) (room - length others) (omega arith))
      ∙ ap (λ (x : Read (List ℤ)). behind others (then x λ zs. got (z ∷ zs))) (no_tokens (room - length others - 1) (place + length token))
      ∙ ap got (sym e)

  pub verdict_only : (x : Read (List ℤ)) → Verdict text room x → read_text text room ≡ x
  verdict_only (got words) v = spells_words v.short v.fits v.spells
  verdict_only (refused WrongByte i) v =
      decides v.short v.fits v.here λ ts.
      one_bad (room - length v.words) (placed v.place v.token) ts WrongByte i
      (says_only v.place v.token (refused WrongByte i) (v.before, v.wrong, v.byte))
  verdict_only (refused BadNumber i) v =
      decides v.short v.fits v.here λ ts.
      one_bad (room - length v.words) (placed i v.token) ts BadNumber i
      (says_only i v.token (refused BadNumber i) (v.bad, refl))
  verdict_only (refused TooLong i) v = sym (over_long text room v.long) ∙ ap (refused TooLong) (sym v.place)
  verdict_only (refused NoRoom i) v =
      let k : room - length v.words ≡ 0 = omega (arith, v.full) in
      decides v.short (omega (arith, v.full)) v.here λ ts.
      ap (λ (k : ℕ). read_tokens k (placed i v.token ∷ ts)) k ∙ no_room (placed i v.token) ts v.z (says_only i v.token (got v.z) v.allowed)

-- "accepted exactly if": and then the words are the tokens' values
pub accepted_exactly : (text : List ℕ) (room : ℕ) (words : List ℤ) → (read_text text room ≡ got words) ↔ Accepted text room words
accepted_exactly text room words = (λ e. subst (Verdict text room) e (verdict text room), λ a. verdict_only text room (got words) a)

-- each of 21 to 24 for its reason, and only for it
pub refused_exactly : (m : Mistake) (i : ℕ) (text : List ℕ) (room : ℕ) → (read_text text room ≡ refused m i) ↔ Reason m i text room
refused_exactly m i text room = (λ e. subst (Verdict text room) e (verdict text room), λ r. verdict_only text room (refused m i) r)
