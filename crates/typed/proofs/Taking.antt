-- The words of a list of tokens, one token at a time.
--
-- In order: none is left (`none_left`); the first token is a word, with and without room for it (`got_one`, `no_room`), or has a
-- mistake (`one_bad`); what words that were read say of their first token (`took`), and that every room that holds them holds the same
-- (`enough`); the tokens from a place on, by what the next word is (`read_end`, `read_bad`, `read_full`, `read_more`). Assumes nothing.
use mathlib.Core.Path.{◌≡◌, refl, sym, ◌∙◌, ap}
use mathlib.Core.List.{List, [], ◌∷◌}
use Prim.Native.Nat.{ℕ, zero, suc, ◌-◌, ◌≤◌, ◌<◌}
use native.Mathlib.Omega.{arith}
use lib.ListN.{length}
use lib.IntN.{ℤ}
use Rattle.std.proofs.Common.{Some, None, Ok, Err}
use Rattle.refusals.specs.declared.Refused.{Refused}
use Rattle.typed.specs.Text.{Read, refused, got, then, Token, value_of, tokens_at, read_tokens}
use Rattle.typed.specs.Next.{next_of}
use Rattle.typed.specs.declared.Mistake.{Mistake}
use Rattle.typed.specs.declared.Mistake.TheVariants.{NoRoom}
use Rattle.typed.specs.declared.Found.{Found}
use Rattle.typed.proofs.Splitting.{next_end, next_found, next_bad}

pub none_left : (room : ℕ) → read_tokens room [] ≡ got []
unfolding read_tokens
none_left zero = refl
none_left (suc room) = refl

module _ (t : Token) (ts : List Token) (z : ℤ) (e : value_of t ≡ got z) where
  pub got_one : (room : ℕ) → 0 < room → read_tokens room (t ∷ ts) ≡ then (read_tokens (room - 1) ts) λ zs. got (z ∷ zs)
  unfolding read_tokens
  got_one zero h = absurd (omega arith)
  got_one (suc room) h =
      ap (λ (r : Read ℤ). then r λ z. then (read_tokens room ts) λ zs. got (z ∷ zs)) e
      ∙ ap (λ (k : ℕ). then (read_tokens k ts) λ zs. got (z ∷ zs)) (omega arith)

  pub no_room : read_tokens 0 (t ∷ ts) ≡ refused NoRoom t.place
  unfolding read_tokens
  no_room = ap (λ (r : Read ℤ). then r λ z. refused NoRoom t.place) e

pub one_bad : (room : ℕ) (t : Token) (ts : List Token) (m : Mistake) (place : ℕ) → value_of t ≡ refused m place
    → read_tokens room (t ∷ ts) ≡ refused m place
unfolding read_tokens
one_bad zero t ts m place e = ap (λ (r : Read ℤ). then r λ z. refused NoRoom t.place) e
one_bad (suc room) t ts m place e = ap (λ (r : Read ℤ). then r λ z. then (read_tokens room ts) λ zs. got (z ∷ zs)) e

-- ── words that were read ──
pub record TookWord (room : ℕ) (ts : List Token) (z : ℤ) (words : List ℤ) : Type 0 where
  pub some : 0 < room
  pub rest : List ℤ
  pub first : words ≡ z ∷ rest
  pub read : read_tokens (room - 1) ts ≡ got rest

took : (room : ℕ) (t : Token) (ts : List Token) (z : ℤ) (words : List ℤ) → value_of t ≡ got z → read_tokens room (t ∷ ts) ≡ got words
    → TookWord room ts z words
took zero t ts z words e g = absurd (let x = sym (no_room t ts z e) ∙ g in cc)
took (suc room) t ts z words e g = go (read_tokens (suc room - 1) ts) refl (sym (got_one t ts z e (suc room) (omega arith)) ∙ g)
  where
    go : (x : Read (List ℤ)) → read_tokens (suc room - 1) ts ≡ x → then x (λ zs. got (z ∷ zs)) ≡ got words → TookWord (suc room) ts z words
    go (refused m place) q g = absurd (cc)
    go (got zs) q g = record { some = omega arith; rest = zs; first = cc; read = q }

-- the words are the same for every room that holds them
pub enough : (room most : ℕ) (ts : List Token) (words : List ℤ) → read_tokens room ts ≡ got words → length words ≤ most → read_tokens most ts ≡ got words
enough room most [] words e h = none_left most ∙ sym (none_left room) ∙ e
enough room most (t ∷ ts) words e h = go (value_of t) refl (λ rest g l. enough (room - 1) (most - 1) ts rest g l)
  where
    go : (x : Read ℤ) → value_of t ≡ x
        → ((rest : List ℤ) → read_tokens (room - 1) ts ≡ got rest → length rest ≤ most - 1 → read_tokens (most - 1) ts ≡ got rest)
        → read_tokens most (t ∷ ts) ≡ got words
    go (refused m place) x ih = absurd (let z = sym (one_bad room t ts m place x) ∙ e in cc)
    go (got z) x ih =
        let w = took room t ts z words x e in
        let size = ap length w.first in
        got_one t ts z x most (omega (arith, size)) ∙ ap (λ (r : Read (List ℤ)). then r λ zs. got (z ∷ zs)) (ih w.rest w.read (omega (arith, size))) ∙ ap got (sym w.first)

-- ── the tokens from a place on, by what the next word is ──
module _ (text : List ℕ) (i : ℕ) where
  pub read_end : (room : ℕ) → Ok None ≡ next_of (tokens_at text i) → read_tokens room (tokens_at text i) ≡ got []
  read_end room e = ap (read_tokens room) (next_end text i e) ∙ none_left room

  pub read_bad : (room : ℕ) {r : Refused Mistake} → Err r ≡ next_of (tokens_at text i) → read_tokens room (tokens_at text i) ≡ refused r.kind r.place
  read_bad room {r} e = let f = next_bad text i e in ap (read_tokens room) f.first ∙ one_bad room f.token f.rest r.kind r.place f.says

  module _ {f : Found} (e : Ok (Some f) ≡ next_of (tokens_at text i)) where
    pub read_full : (room : ℕ) → room ≡ 0 → read_tokens room (tokens_at text i) ≡ refused NoRoom f.start
    read_full room h =
        let w = next_found text i e in
        ap (λ (k : ℕ). read_tokens k (tokens_at text i)) h
        ∙ ap (read_tokens 0) w.first
        ∙ no_room w.token (tokens_at text f.end) f.word w.says
        ∙ ap (refused NoRoom) w.place

    pub read_more : (room : ℕ) → 0 < room → read_tokens room (tokens_at text i) ≡ then (read_tokens (room - 1) (tokens_at text f.end)) λ zs. got (f.word ∷ zs)
    read_more room h =
        let w = next_found text i e in
        ap (read_tokens room) w.first ∙ got_one w.token (tokens_at text f.end) f.word w.says room h
