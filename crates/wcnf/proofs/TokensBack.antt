-- Tokens that are written as lines, one blank between them and byte 10 behind each line, are read as those tokens.
--
-- In order: the first piece of a text, which ends at a byte that cuts it (`piece_cut`) or with the text (`piece_end`); what a token
-- is made of (`IsToken`); the tokens of a line (`tokens_back`); a line in front of other text (`line_back`); a line of items, each
-- printed as a token (`items_line`, `items_tokens`). Assumes nothing.
use mathlib.Core.Path.{◌≡◌, refl, sym, ◌∙◌, ap}
use mathlib.Core.Bool.{Bool, true, false}
use mathlib.Core.List.{List, [], ◌∷◌, ◌++◌, map, append-nil, append_assoc}
use Prim.Native.Nat.{ℕ, ◌≤◌, ◌<◌}
use native.Mathlib.Omega.{arith}
use lib.ListN.{length}
use borrow.Author.Tests.{ne_eqb}
use Rattle.lists.specs.Lists.{Each}
use Rattle.lists.proofs.Each.{each_append, each_map}
use Rattle.printing.specs.Lines.{spaced, line_end, line}
use Rattle.wcnf.specs.Format.{ended, pieces, ends_line, is_blank, tokens_of, is_comment, lines_of, telling}

-- ── pieces ──
module _ (cuts : ℕ → Bool) where
  -- no byte of a list cuts
  abbrev Uncut : List ℕ → Type 0
  Uncut = Each (λ b. cuts b ≡ false)

  -- a piece that is going on takes all bytes up to the one that cuts
  piece_cut : (begun w : List ℕ) (c : ℕ) (rest : List ℕ) → Uncut w → cuts c ≡ true → pieces cuts begun (w ++ (c ∷ rest)) ≡ ended (begun ++ w) (pieces cuts [] rest)
  unfolding pieces
  piece_cut begun [] c rest u t = rw (t, append-nil begun)
  piece_cut begun (b ∷ w) c rest u t =
      rw u.0
      (piece_cut (begun ++ (b ∷ [])) w c rest u.1 t ∙ ap (λ (l : List ℕ). ended l (pieces cuts [] rest)) (append_assoc begun (b ∷ []) w))

  piece_end : (begun w : List ℕ) → Uncut w → pieces cuts begun w ≡ ended (begun ++ w) []
  unfolding pieces
  piece_end begun [] u = rw (append-nil begun) refl
  piece_end begun (b ∷ w) u = rw u.0 (piece_end (begun ++ (b ∷ [])) w u.1 ∙ ap (λ (l : List ℕ). ended l []) (append_assoc begun (b ∷ []) w))

-- ── tokens ──
-- one byte or more, each above the blank
pub record IsToken (t : List ℕ) : Type 0 where
  pub some : 1 ≤ length t
  pub above : Each (λ b. 32 < b) t

-- no such byte is a blank, and none ends a line
no_blank : (b : ℕ) → 32 < b → is_blank b ≡ false
no_blank b l = rw (ne_eqb b 9 (λ q. omega arith), ne_eqb b 13 (λ q. omega arith), ne_eqb b 32 (λ q. omega arith))

no_end : (b : ℕ) → 32 < b → ends_line b ≡ false
no_end b l = ne_eqb b 10 (λ q. omega arith)

ended_some : (t : List ℕ) (rest : List (List ℕ)) → 1 ≤ length t → ended t rest ≡ t ∷ rest
ended_some [] rest l = absurd (omega arith)
ended_some (b ∷ t) rest l = refl

-- the tokens of a line but its first, a blank in front of each
abbrev between : List (List ℕ) → List ℕ
between ts = spaced (λ t. t) ts

tokens_back : (t : List ℕ) (ts : List (List ℕ)) → IsToken t → Each IsToken ts → tokens_of (t ++ between ts) ≡ t ∷ ts
unfolding spaced
tokens_back t [] i each =
    ap tokens_of (append-nil t) ∙ piece_end is_blank [] t (each_map _ _ no_blank t i.above) ∙ ended_some t [] i.some
tokens_back t (u ∷ us) i each =
    piece_cut is_blank [] t 32 (u ++ between us) (each_map _ _ no_blank t i.above) refl
    ∙ ended_some t _ i.some
    ∙ ap (λ (l : List (List ℕ)). t ∷ l) (tokens_back u us each.0 each.1)

-- ── lines ──
no_ends : (ts : List (List ℕ)) → Each IsToken ts → Each (λ b. ends_line b ≡ false) (between ts)
unfolding spaced
no_ends [] each = tt
no_ends (t ∷ ts) each = (refl, each_append _ t (between ts) (each_map _ _ no_end t each.0.above) (no_ends ts each.1))

-- a line of tokens
abbrev pub token_line : (first : List ℕ) → List (List ℕ) → List ℕ
token_line t ts = line t (λ u. u) ts

ends_behind : (t : List ℕ) (ts : List (List ℕ)) (rest : List ℕ) → token_line t ts ++ rest ≡ (t ++ between ts) ++ (10 ∷ rest)
ends_behind t ts rest =
    ap (λ (l : List ℕ). l ++ rest) (sym (append_assoc t (between ts) line_end)) ∙ append_assoc (t ++ between ts) line_end rest

pub line_back : (t : List ℕ) (ts : List (List ℕ)) (rest : List ℕ) → IsToken t → is_comment t ≡ false → Each IsToken ts
    → telling (token_line t ts ++ rest) ≡ (t ∷ ts) ∷ telling rest
unfolding lines_of
line_back [] ts rest i plain each = absurd (let l = i.some in omega arith)
line_back (b ∷ t) ts rest i plain each =
    let uncut = each_append _ (b ∷ t) (between ts) (each_map _ _ no_end (b ∷ t) i.above) (no_ends ts each) in
    ap telling (ends_behind (b ∷ t) ts rest)
    ∙ ap lines_of (piece_cut ends_line [] ((b ∷ t) ++ between ts) 10 rest uncut refl)
    ∙ rw (plain, tokens_back (b ∷ t) ts i each)

-- ── items ──
-- a line of printed items is the line of what is printed of each
items_between : {A : Type 0} (f : A → List ℕ) (items : List A) → spaced f items ≡ between (map f items)
unfolding spaced
items_between f [] = refl
items_between f (a ∷ l) = ap (λ (w : List ℕ). 32 ∷ (f a ++ w)) (items_between f l)

pub items_line : {A : Type 0} (word : List ℕ) (f : A → List ℕ) (items : List A) → line word f items ≡ token_line word (map f items)
items_line word f items = ap (λ (l : List ℕ). word ++ (l ++ line_end)) (items_between f items)

pub items_tokens : {A : Type 0} (f : A → List ℕ) → ((a : A) → IsToken (f a)) → (items : List A) → Each IsToken (map f items)
items_tokens f each [] = tt
items_tokens f each (a ∷ l) = (each a, items_tokens f each l)
