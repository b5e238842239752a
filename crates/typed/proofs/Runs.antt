-- Tokens as runs of bytes other than separators.
--
-- In order: a run of such bytes that ends is the next token (`run_token`), and the next token is such a run (`Run`, `token_run`).
-- Assumes nothing.
use mathlib.Core.Path.{◌≡◌, ◌∙◌, ap}
use mathlib.Core.Bool.{true, false, not}
use mathlib.Core.List.{List, [], ◌∷◌, ◌++◌}
use Prim.Native.Nat.{ℕ, ◌+◌, ◌≤◌}
use native.Mathlib.Omega.{arith}
use lib.ListN.{length, drop}
use lib.Seq.{drop-append_seam}
use borrow.Author.Tests.{not-true, not-false}
use Rattle.typed.specs.Text.{is_separator, in_token, front, placed, tokens_from}
use Rattle.typed.specs.Allowed.{Passing}
use Rattle.typed.specs.Reasons.{TokenEnds}
use Rattle.typed.proofs.Fronts.{Fails, front_splits, front_each, front_fails, each_front}
use Rattle.typed.proofs.Splitting.{first_token}

-- a run of bytes of a token ends where the next byte is none
fails_ends : (after : List ℕ) → Fails in_token after → TokenEnds after
fails_ends [] f = tt
fails_ends (b ∷ bs) f = not-false (is_separator b) f

ends_fails : (after : List ℕ) → TokenEnds after → Fails in_token after
ends_fails [] e = tt
ends_fails (b ∷ bs) e = ap not e

pub run_token : (i : ℕ) (token after : List ℕ) → 1 ≤ length token → Passing in_token token → TokenEnds after
    → tokens_from true i (token ++ after) ≡ placed i token ∷ tokens_from true (i + length token) after
run_token i [] after some bytes ends = absurd (omega arith)
run_token i (b ∷ bs) after some bytes ends =
    let e = each_front in_token (b ∷ bs) after bytes (ends_fails after ends) in
    first_token i (b ∷ bs ++ after) (omega arith) (not-true (is_separator b) bytes.0)
    ∙ ap (λ (l : List ℕ). placed i l ∷ tokens_from true (i + length l) (drop (length l) (b ∷ bs ++ after))) e
    ∙ ap (λ (l : List ℕ). placed i (b ∷ bs) ∷ tokens_from true (i + length (b ∷ bs)) l) (drop-append_seam (b ∷ bs) after)

-- where the next byte is one of a token, the token with it is a longest run
pub record Run (l : List ℕ) : Type 0 where
  pub token : List ℕ
  pub after : List ℕ
  pub whole : l ≡ token ++ after
  pub some : 1 ≤ length token
  pub bytes : Passing in_token token
  pub ends : TokenEnds after

pub token_run : (b : ℕ) (bs : List ℕ) → is_separator b ≡ false → Run (b ∷ bs)
unfolding front
token_run b bs e = record {
  token = b ∷ front in_token bs;
  after = drop (length (front in_token bs)) bs;
  whole = ap (λ (l : List ℕ). b ∷ l) (front_splits in_token bs);
  some = omega arith;
  bytes = (ap not e, front_each in_token bs);
  ends = fails_ends (drop (length (front in_token bs)) bs) (front_fails in_token bs);
}
