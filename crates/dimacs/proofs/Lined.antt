-- A line end behind a text adds no token.
--
-- In order: the tokens of a text (`tokens_lined`); those behind the comment lines (`lead_lined`). Assumes nothing.
use mathlib.Core.Path.{◌≡◌, refl, sym, ◌∙◌, ap}
use mathlib.Core.Bool.{Bool, true, false, cond, not}
use mathlib.Core.List.{List, [], ◌∷◌}
use Prim.Native.Nat.{ℕ, suc, ◌+◌}
use native.Mathlib.Omega.{arith}
use lib.ListN.{drop}
use Rattle.typed.specs.Text.{is_separator, in_token, front, placed, if_fresh, Token, tokens_from, tokens_at}
use Rattle.dimacs.specs.declared.lead.Spot.{Spot}
use Rattle.dimacs.specs.declared.lead.Spot.TheVariants.{LineStart, Blank, Comment, TokenStart}
use Rattle.dimacs.specs.File.{spot_after, passing, lead_length}
use Rattle.dimacs.specs.Standing.{lined}

front_lined : (l : List ℕ) → front in_token (lined l) ≡ front in_token l
unfolding front
front_lined [] = refl
front_lined (b ∷ bs) = ap (λ (l : List ℕ). cond (not (is_separator b)) (b ∷ l) []) (front_lined bs)

tokens_lined : (fresh : Bool) (i : ℕ) (l : List ℕ) → tokens_from fresh i (lined l) ≡ tokens_from fresh i l
unfolding tokens_from
tokens_lined fresh i [] = refl
tokens_lined fresh i (b ∷ bs) = go (is_separator b) (tokens_lined true (suc i) bs) (tokens_lined false (suc i) bs)
  where
    go : (s : Bool) → tokens_from true (suc i) (lined bs) ≡ tokens_from true (suc i) bs → tokens_from false (suc i) (lined bs) ≡ tokens_from false (suc i) bs
        → cond s (tokens_from true (suc i) (lined bs)) (if_fresh fresh (placed i (b ∷ front in_token (lined bs))) (tokens_from false (suc i) (lined bs)))
        ≡ cond s (tokens_from true (suc i) bs) (if_fresh fresh (placed i (b ∷ front in_token bs)) (tokens_from false (suc i) bs))
    go true e f = e
    go false e f =
        ap (λ (ts : List Token). if_fresh fresh (placed i (b ∷ front in_token (lined bs))) ts) f
        ∙ ap (λ (l : List ℕ). if_fresh fresh (placed i (b ∷ l)) (tokens_from false (suc i) bs)) (front_lined bs)

-- the tokens of a text from a place on, behind so many bytes more
abbrev tokens_behind : (i more : ℕ) → List ℕ → List Token
tokens_behind i more l = tokens_from true (i + more) (drop more l)

one_further : (i more b : ℕ) (bs : List ℕ) → tokens_behind i (suc more) (b ∷ bs) ≡ tokens_behind (suc i) more bs
one_further i more b bs = ap (λ (j : ℕ). tokens_from true j (drop more bs)) (omega arith)

behind_lined : (spot : Spot) (i : ℕ) (l : List ℕ) → tokens_behind i (lead_length spot (lined l)) (lined l) ≡ tokens_behind i (lead_length spot l) l
unfolding lead_length tokens_from
behind_lined LineStart i [] = refl
behind_lined Blank i [] = refl
behind_lined Comment i [] = refl
behind_lined TokenStart i [] = refl
behind_lined spot i (b ∷ bs) = go (spot_after spot b) (behind_lined (spot_after spot b) (suc i) bs)
  where
    passed : (more fewer : ℕ) → tokens_behind (suc i) more (lined bs) ≡ tokens_behind (suc i) fewer bs
        → tokens_behind i (suc more) (lined (b ∷ bs)) ≡ tokens_behind i (suc fewer) (b ∷ bs)
    passed more fewer e = one_further i more b (lined bs) ∙ e ∙ sym (one_further i fewer b bs)

    go : (next : Spot) → tokens_behind (suc i) (lead_length next (lined bs)) (lined bs) ≡ tokens_behind (suc i) (lead_length next bs) bs
        → tokens_behind i (passing next (lead_length next (lined bs))) (lined (b ∷ bs)) ≡ tokens_behind i (passing next (lead_length next bs)) (b ∷ bs)
    go LineStart e = passed (lead_length LineStart (lined bs)) (lead_length LineStart bs) e
    go Blank e = passed (lead_length Blank (lined bs)) (lead_length Blank bs) e
    go Comment e = passed (lead_length Comment (lined bs)) (lead_length Comment bs) e
    go TokenStart e = tokens_lined true (i + 0) (b ∷ bs)

from_start : (more : ℕ) (l : List ℕ) → tokens_behind 0 more l ≡ tokens_at l more
from_start more l = ap (λ (j : ℕ). tokens_from true j (drop more l)) (omega arith)

pub lead_lined : (text : List ℕ) → tokens_at (lined text) (lead_length LineStart (lined text)) ≡ tokens_at text (lead_length LineStart text)
lead_lined text =
    sym (from_start (lead_length LineStart (lined text)) (lined text))
    ∙ behind_lined LineStart 0 text
    ∙ from_start (lead_length LineStart text) text
