-- The tokens of a text, as the code walks along it.
--
-- In order: separators are passed over (`skip_separators`), and so is what is left of a token (`skip_token`), so that a token at the
-- front is the first (`first_token`); the next token from a place on (`NextToken`, `token_length`, `no_token`, `token_next`), where it
-- stands (`next_span`, `none_behind`, `span_past`, `FirstToken`, `first_of`, `span_token`, `span_end`) and what it says (`span_within`, `says_next`);
-- what an answer tells of it (`FoundWord`, `FoundMistake`, `next_end`, `next_found`, `next_bad`). Assumes nothing.
use mathlib.Core.Path.{◌≡◌, refl, sym, ◌∙◌, ap, subst}
use mathlib.Core.Bool.{Bool, true, false, cond, not}
use mathlib.Core.List.{List, [], ◌∷◌}
use Prim.Native.Nat.{ℕ, suc, ◌+◌, ◌-◌, ◌≤◌, ◌<◌}
use native.Mathlib.Omega.{arith}
use lib.ListN.{length, get_or, take, drop, length-drop, drop_of_length-le}
use lib.Seq.{length-take-le, take_all, drop-drop}
use lib.IntN.{ℤ}
use Rattle.std.proofs.Common.{Some, None, Result, Ok, Err, nat_lt, position, slice_range}
use Rattle.std.specs.List.{prefix_len, position_or_len}
use Rattle.std.specs.Option.{option_map_or}
use Rattle.std.specs.Result.{result_map_both}
use borrow.Author.Tests.{ltb-true, ltb-false}
use Rattle.refusals.specs.declared.Refused.{Refused}
use Rattle.lists.proofs.Cases.{Tri, below, level, above, tri}
use Rattle.typed.specs.Text.{Read, refused, got, is_separator, in_token, front, Token, tokens_from, tokens_at, value_of, placed}
use Rattle.typed.specs.Next.{end_of, span_of, says_at, next_of}
use Rattle.typed.specs.Steps.{said_of}
use Rattle.typed.specs.declared.Mistake.{Mistake}
use Rattle.typed.specs.declared.Span.{Span}
use Rattle.typed.specs.declared.Found.{Found}
use Rattle.typed.proofs.Fronts.{Fails, front_length, take_front, front_fails, front_counted}

-- the tokens behind a run at the front
abbrev pub tokens_behind : ℕ → (run l : List ℕ) → List Token
tokens_behind i run l = tokens_from true (i + length run) (drop (length run) l)

skip_separators : (i : ℕ) (l : List ℕ) → tokens_from true i l ≡ tokens_behind i (front is_separator l) l
unfolding front tokens_from
skip_separators i [] = refl
skip_separators i (b ∷ bs) = go (is_separator b) refl (skip_separators (suc i) bs)
  where
    go : (s : Bool) → is_separator b ≡ s → tokens_from true (suc i) bs ≡ tokens_behind (suc i) (front is_separator bs) bs
        → tokens_from true i (b ∷ bs) ≡ tokens_behind i (cond s (b ∷ front is_separator bs) []) (b ∷ bs)
    go true e ih = rw e (ih ∙ ap (λ (j : ℕ). tokens_from true j (drop (length (front is_separator bs)) bs)) (omega arith))
    go false e ih = ap (λ (j : ℕ). tokens_from true j (b ∷ bs)) (omega arith)

skip_token : (i : ℕ) (l : List ℕ) → tokens_from false i l ≡ tokens_behind i (front in_token l) l
unfolding front tokens_from
skip_token i [] = refl
skip_token i (b ∷ bs) = go (is_separator b) refl (skip_token (suc i) bs)
  where
    go : (s : Bool) → is_separator b ≡ s → tokens_from false (suc i) bs ≡ tokens_behind (suc i) (front in_token bs) bs
        → tokens_from false i (b ∷ bs) ≡ tokens_behind i (cond (not s) (b ∷ front in_token bs) []) (b ∷ bs)
    go true e ih = rw e (ap (λ (j : ℕ). tokens_from true (suc j) bs) (omega arith))
    go false e ih = rw e (ih ∙ ap (λ (j : ℕ). tokens_from true j (drop (length (front in_token bs)) bs)) (omega arith))

-- a token that begins at the front has a byte, and the other tokens are those behind it
front_some : (l : List ℕ) → 0 < length l → is_separator (get_or l 0 0) ≡ false → 0 < length (front in_token l)
unfolding front
front_some [] h e = absurd (omega arith)
front_some (b ∷ bs) h e = rw e (omega arith)

pub first_token : (i : ℕ) (l : List ℕ) → 0 < length l → is_separator (get_or l 0 0) ≡ false
    → tokens_from true i l ≡ placed i (front in_token l) ∷ tokens_behind i (front in_token l) l
unfolding front tokens_from
first_token i [] h e = absurd (omega arith)
first_token i (b ∷ bs) h e =
    rw e
    (ap (λ (ts : List Token). placed i (b ∷ front in_token bs) ∷ ts)
    (skip_token (suc i) bs ∙ ap (λ (j : ℕ). tokens_from true j (drop (length (front in_token bs)) bs)) (omega arith)))

-- ── places ──
-- the next token from a place on has the bytes from `start` to `end`
pub record NextToken (text : List ℕ) (from start end : ℕ) : Type 0 where
  pub first : tokens_at text from ≡ placed start (take (end - start) (drop start text)) ∷ tokens_at text end
  pub before : from ≤ start
  pub some : start < end
  pub inside : end ≤ length text

pub token_length : {text : List ℕ} {from start end : ℕ} → NextToken text from start end → length (take (end - start) (drop start text)) ≡ end - start
token_length {text} {from} {start} {end} t = length-take-le (end - start) (drop start text) (omega (arith, length-drop start text, t.inside))

span_is : {text : List ℕ} {from start end : ℕ} → NextToken text from start end → span_of (tokens_at text from) ≡ Some (record { start = start; end = end })
span_is {text} {from} {start} {end} t = ap span_of t.first ∙ ap (λ (k : ℕ). Some (record { start = start; end = k })) (omega (arith, token_length t, t.some))

module _ (text : List ℕ) (from : ℕ) where
  -- where the separators from a place on end, and where the token behind them does
  abbrev start_of : ℕ
  start_of = from + length (front is_separator (drop from text))

  abbrev end_of_lem : ℕ
  end_of_lem = start_of + length (front in_token (drop start_of text))

  at_start : tokens_at text from ≡ tokens_at text start_of
  at_start =
      let n = length (front is_separator (drop from text)) in
      skip_separators from (drop from text) ∙ ap (tokens_from true (from + n)) (drop-drop n from text)

  no_token : length text ≤ start_of → tokens_at text from ≡ []
  unfolding tokens_from
  no_token h = at_start ∙ ap (tokens_from true start_of) (drop_of_length-le text h)

  module _ (h : start_of < length text) where
    some_left : 0 < length (drop start_of text)
    some_left = omega (arith, length-drop start_of text)

    -- the byte there is one of a token
    starts : is_separator (get_or (drop start_of text) 0 0) ≡ false
    starts =
        let n = length (front is_separator (drop from text)) in
        go (drop start_of text) some_left (subst (Fails is_separator) (drop-drop n from text) (front_fails is_separator (drop from text)))
      where
        go : (l : List ℕ) → 0 < length l → Fails is_separator l → is_separator (get_or l 0 0) ≡ false
        go [] h f = absurd (omega arith)
        go (b ∷ bs) h f = f

    token_next : NextToken text from start_of end_of_lem
    token_next =
        let l = drop start_of text in
        let n = length (front in_token l) in
        let k : n ≡ end_of_lem - start_of = omega arith in
        record {
          first =
              at_start ∙ first_token start_of l some_left starts
              ∙ ap (λ (bytes : List ℕ). placed start_of bytes ∷ tokens_behind start_of (front in_token l) l) (sym (take_front in_token l) ∙ ap (λ (k : ℕ). take k l) k)
              ∙ ap (λ (l : List ℕ). placed start_of (take (end_of_lem - start_of) (drop start_of text)) ∷ tokens_from true end_of_lem l) (drop-drop n start_of text);
          before = omega arith;
          some = omega (arith, front_some l some_left starts);
          inside = omega (arith, front_length in_token l, length-drop start_of text);
        }

-- ── where the token stands ──
-- the library's count of the bytes before the first byte of a token
separators_counted : (l : List ℕ) → position_or_len in_token l ≡ length (front is_separator l)
unfolding front
separators_counted [] = refl
separators_counted (b ∷ bs) = go (is_separator b) (separators_counted bs)
  where
    go : (s : Bool) → position_or_len in_token bs ≡ length (front is_separator bs)
        → cond (not (not s)) (1 + position_or_len in_token bs) 0 ≡ length (cond s (b ∷ front is_separator bs) [])
    go true e = omega arith
    go false e = refl

-- what is left of a text, as the code has it
abbrev rest_of : List ℕ → ℕ → List ℕ
rest_of text from = slice_range text from (length text)

rest_is : (text : List ℕ) (from : ℕ) → rest_of text from ≡ drop from text
rest_is text from = take_all (length text - from) (drop from text) (omega (arith, length-drop from text))

-- where a byte of a token is left, the next token begins at the first of them, and goes on as long as they do
pub next_span : (text : List ℕ) (from : ℕ)
    → span_of (tokens_at text from)
    ≡ option_map_or (λ i. Some (record { start = from + i; end = from + i + prefix_len in_token (slice_range text (from + i) (length text)) }))
    (position in_token (slice_range text from (length text))) None
next_span text from = rw rest_is (go (nat_lt (position_or_len in_token (drop from text)) (length (drop from text))) refl)
  where
    go : (t : Bool) → nat_lt (position_or_len in_token (drop from text)) (length (drop from text)) ≡ t
        → span_of (tokens_at text from)
        ≡ option_map_or (λ i. Some (record { start = from + i; end = from + i + prefix_len in_token (slice_range text (from + i) (length text)) }))
        (cond t (Some (position_or_len in_token (drop from text))) None) None
    go true e =
        let n = separators_counted (drop from text) in
        let h = ltb-true (position_or_len in_token (drop from text)) (length (drop from text)) e in
        rw n
        (span_is (token_next text from (omega (arith, length-drop from text)))
        ∙ ap (λ (k : ℕ). Some (record { start = start_of text from; end = start_of text from + k }))
        (front_counted in_token (drop (start_of text from) text) ∙ sym (ap (prefix_len in_token) (rest_is text (start_of text from)))))
    go false e =
        let n = separators_counted (drop from text) in
        let h = ltb-false (position_or_len in_token (drop from text)) (length (drop from text)) e in
        ap span_of (no_token text from (omega (arith, length-drop from text)))

pub none_behind : (text : List ℕ) (from : ℕ) → length text ≤ from → tokens_at text from ≡ []
unfolding tokens_from
none_behind text from h = ap (tokens_from true from) (drop_of_length-le text h)

pub span_past : (text : List ℕ) (from : ℕ) → length text < from → span_of (tokens_at text from) ≡ None
unfolding tokens_from
span_past text from h = ap (λ (l : List ℕ). span_of (tokens_from true from l)) (drop_of_length-le text (omega arith))

-- the first of the tokens from a place on is the next token
pub record FirstToken (text : List ℕ) (from : ℕ) (t : Token) (ts : List Token) : Type 0 where
  pub next : NextToken text from t.place (end_of t)
  pub bytes : t.bytes ≡ take (end_of t - t.place) (drop t.place text)
  pub others : ts ≡ tokens_at text (end_of t)

pub first_of : (text : List ℕ) (from : ℕ) (t : Token) (ts : List Token) → tokens_at text from ≡ t ∷ ts → FirstToken text from t ts
first_of text from t ts e = go (tri (start_of text from) (length text))
  where
    none : length text ≤ start_of text from → FirstToken text from t ts
    none h = absurd (let z = no_token text from h in cc)

    go : Tri (start_of text from) (length text) → FirstToken text from t ts
    go (below h) =
        let next = token_next text from h in
        let bytes = take (end_of_lem text from - start_of text from) (drop (start_of text from) text) in
        let same : placed (start_of text from) bytes ∷ tokens_at text (end_of_lem text from) ≡ t ∷ ts = sym next.first ∙ e in
        let is : placed (start_of text from) bytes ≡ t = cc in
        let others : tokens_at text (end_of_lem text from) ≡ ts = cc in
        let end : start_of text from + length bytes ≡ end_of_lem text from = omega (arith, token_length next, next.some) in
        subst (λ (t : Token). FirstToken text from t ts) is
        (record {
          next = subst (NextToken text from (start_of text from)) (sym end) next;
          bytes = ap (λ (k : ℕ). take (k - start_of text from) (drop (start_of text from) text)) (sym end);
          others = sym others ∙ ap (tokens_at text) (sym end);
        })
    go (level h) = none (omega arith)
    go (above h) = none (omega arith)

pub span_token : (text : List ℕ) (from : ℕ) {s : Span} → Some s ≡ span_of (tokens_at text from) → NextToken text from s.start s.end
span_token text from {s} e = go (tokens_at text from) refl e
  where
    go : (ts : List Token) → tokens_at text from ≡ ts → Some s ≡ span_of ts → NextToken text from s.start s.end
    go [] u v = absurd (cc)
    go (t ∷ ts) u v =
        let is : record { start = t.place; end = end_of t } ≡ s = cc in
        subst (λ (s : Span). NextToken text from s.start s.end) is (first_of text from t ts u).next

pub span_end : (text : List ℕ) (from : ℕ) → None ≡ span_of (tokens_at text from) → tokens_at text from ≡ []
span_end text from e = go (tokens_at text from) e
  where
    go : (ts : List Token) → None ≡ span_of ts → ts ≡ []
    go [] v = refl
    go (t ∷ ts) v = absurd (cc)

-- ── what the token says ──
-- it lies within the text, and what its bytes say is the next word, or the mistake
module _ (text : List ℕ) (from start end : ℕ) (e : span_of (tokens_at text from) ≡ Some (record { start = start; end = end })) where
  pub span_within : (start < end) × (end ≤ length text)
  span_within = let t = span_token text from (sym e) in (t.some, t.inside)

  pub says_next : {r : Result ℤ (Refused Mistake)} → r ≡ said_of (value_of (placed start (slice_range text start end)))
      → result_map_both (λ z. Some (record { word = z; start = start; end = end })) (λ e. e) r ≡ next_of (tokens_at text from)
  says_next q =
      let t = span_token text from (sym e) in
      ap (result_map_both (λ z. Some (record { word = z; start = start; end = end })) (λ e. e)) q
      ∙ mapped (value_of (placed start (slice_range text start end)))
      ∙ ap (λ (k : ℕ). says_at start k (value_of (placed start (slice_range text start end)))) (omega (arith, token_length t, t.some))
      ∙ sym (ap next_of t.first)
    where
      mapped : (x : Read ℤ) → result_map_both (λ z. Some (record { word = z; start = start; end = end })) (λ e. e) (said_of x) ≡ says_at start end x
      mapped (refused m place) = refl
      mapped (got z) = refl

-- ── what an answer tells of the next token ──
pub record FoundWord (text : List ℕ) (i : ℕ) (f : Found) : Type 0 where
  pub token : Token
  pub first : tokens_at text i ≡ token ∷ tokens_at text f.end
  pub says : value_of token ≡ got f.word
  pub place : token.place ≡ f.start
  pub on : i < f.end
  pub inside : f.end ≤ length text

pub record FoundMistake (text : List ℕ) (i : ℕ) (r : Refused Mistake) : Type 0 where
  pub token : Token
  pub rest : List Token
  pub first : tokens_at text i ≡ token ∷ rest
  pub says : value_of token ≡ refused r.kind r.place

module _ (text : List ℕ) (i : ℕ) where
  pub next_end : Ok None ≡ next_of (tokens_at text i) → tokens_at text i ≡ []
  next_end e = go (tokens_at text i) e
    where
      said : (start end : ℕ) (x : Read ℤ) {A : Type 0} → Ok None ≡ says_at start end x → A
      said start end (refused m place) v = absurd (cc)
      said start end (got z) v = absurd (cc)

      go : (ts : List Token) → Ok None ≡ next_of ts → ts ≡ []
      go [] v = refl
      go (t ∷ ts) v = said t.place (end_of t) (value_of t) v

  pub next_found : {f : Found} → Ok (Some f) ≡ next_of (tokens_at text i) → FoundWord text i f
  next_found {f} e = go (tokens_at text i) refl e
    where
      go : (ts : List Token) → tokens_at text i ≡ ts → Ok (Some f) ≡ next_of ts → FoundWord text i f
      go [] u v = absurd (cc)
      go (t ∷ ts) u v = by (value_of t) refl v
        where
          by : (x : Read ℤ) → value_of t ≡ x → Ok (Some f) ≡ says_at t.place (end_of t) x → FoundWord text i f
          by (refused m place) x v = absurd (cc)
          by (got y) x v =
              let n = first_of text i t ts u in
              let is : record { word = y; start = t.place; end = end_of t } ≡ f = cc in
              subst (FoundWord text i) is
              (record {
                token = t;
                first = u ∙ ap (λ (l : List Token). t ∷ l) n.others;
                says = x;
                place = refl;
                on = omega (arith, n.next.before, n.next.some);
                inside = n.next.inside;
              })

  pub next_bad : {r : Refused Mistake} → Err r ≡ next_of (tokens_at text i) → FoundMistake text i r
  next_bad {r} e = go (tokens_at text i) refl e
    where
      go : (ts : List Token) → tokens_at text i ≡ ts → Err r ≡ next_of ts → FoundMistake text i r
      go [] u v = absurd (cc)
      go (t ∷ ts) u v = by (value_of t) refl v
        where
          by : (x : Read ℤ) → value_of t ≡ x → Err r ≡ says_at t.place (end_of t) x → FoundMistake text i r
          by (refused n k) x v =
              let is : record { kind = n; place = k } ≡ r = cc in
              record { token = t; rest = ts; first = u; says = x ∙ ap (λ (r : Refused Mistake). refused r.kind r.place) is }
          by (got y) x v = absurd (cc)
