-- Places of a text that a line end closes: what stands behind each, and the token there.
--
-- In order: a list that is closed by a line end (`Shut`), and a place in it (`Within`, `within_append`), behind comments, the header's
-- words and numbers (`within_lead`, `within_p`, `within_header`, `within_standing`), and at its end (`end_place`); the token at a place
-- (`Next`, `token_here`); the tokens from a token on (`tokens_here`), from separators on (`tokens_behind_lem`), and at the end (`no_tokens`).
-- Assumes nothing.
use mathlib.Core.Path.{◌≡◌, refl, sym, ◌∙◌, ap, subst}
use mathlib.Core.Bool.{Bool, true, false}
use mathlib.Core.List.{List, [], ◌∷◌, ◌++◌, append-nil}
use Prim.Native.Nat.{ℕ, suc, ◌+◌, ◌≤◌}
use native.Mathlib.Omega.{arith}
use lib.ListN.{length, length-append}
use borrow.Author.Tests.{not-true}
use Rattle.lists.specs.Bytes.{bytes}
use Rattle.lists.proofs.Cases.{both}
use Rattle.typed.specs.Text.{is_separator, in_token, tokens_from, placed}
use Rattle.typed.specs.Allowed.{Passing}
use Rattle.typed.specs.Reasons.{TokenEnds}
use Rattle.typed.proofs.Runs.{token_run}
use Rattle.typed.proofs.Reaching.{skip_one, past_token}
use Rattle.dimacs.specs.Stage.{Stage}
use Rattle.dimacs.specs.Standing.{lined, BehindLead, BehindP, BehindHeader, Standing}
use Rattle.dimacs.specs.Reasons.{TokenHere}

-- ── closed by a line end ──
-- the last byte is a line end
abbrev Shut : List ℕ → Type 0
Shut [] = Unit {0}
Shut (b ∷ []) = b ≡ 10
Shut (b ∷ (c ∷ cs)) = Shut (c ∷ cs)

shut_lined : (text : List ℕ) → Shut (lined text)
shut_lined [] = refl
shut_lined (b ∷ []) = refl
shut_lined (b ∷ (c ∷ cs)) = shut_lined (c ∷ cs)

shut_behind : (l rest : List ℕ) → Shut (l ++ rest) → Shut rest
shut_behind [] rest s = s
shut_behind (b ∷ []) [] s = tt
shut_behind (b ∷ []) (c ∷ cs) s = s
shut_behind (b ∷ (c ∷ cs)) rest s = shut_behind (c ∷ cs) rest s

-- a token is no such list
shut_token : (token : List ℕ) → 1 ≤ length token → Passing in_token token → Shut token → ⊥
shut_token [] some each s = absurd (omega arith)
shut_token (b ∷ []) some each s = both (ap is_separator s) (not-true (is_separator b) each.0)
shut_token (b ∷ (c ∷ cs)) some each s = shut_token (c ∷ cs) (omega arith) each.1 s

-- ── places ──
-- what stands behind a place of a text
pub record Within (text : List ℕ) (place : ℕ) (rest : List ℕ) : Type 0 where
  pub shut : Shut rest
  pub left : place + length rest ≡ suc (length text)

within_append : {text : List ℕ} {i : ℕ} (l : List ℕ) {rest : List ℕ} → Within text i (l ++ rest) → Within text (i + length l) rest
within_append {text} {i} l {rest} w = record { shut = shut_behind l rest w.shut; left = omega (arith, w.left, length-append l rest) }

within_start : (text : List ℕ) → Within text 0 (lined text)
within_start text = record { shut = shut_lined text; left = omega (arith, length-append text (bytes "\n")) }

-- behind so many bytes of a text that is itself behind a place
within_whole : {text : List ℕ} {i : ℕ} {l : List ℕ} → Within text i l → (before rest : List ℕ) → l ≡ before ++ rest → {place : ℕ}
    → place ≡ i + length before
    → Within text place rest
within_whole {text} {i} w before rest e size =
    subst (λ (k : ℕ). Within text k rest) (sym size) (within_append before (subst (Within text i) e w))

pub within_lead : {text : List ℕ} {ends : Bool} {place : ℕ} {rest : List ℕ} → BehindLead (lined text) ends place rest → Within text place rest
within_lead {text = text} {rest = rest} b = within_whole (within_start text) b.before rest b.whole (omega (arith, b.size))

pub within_p : {text : List ℕ} {place : ℕ} {rest : List ℕ} → BehindP (lined text) place rest → Within text place rest
within_p {rest = rest} b =
    within_whole (within_append (bytes "p") (within_lead b.lead)) b.gap rest refl (omega (arith, b.size))

within_header : {text : List ℕ} {place : ℕ} {rest : List ℕ} → BehindHeader (lined text) place rest → Within text place rest
within_header {rest = rest} b =
    within_whole (within_append (bytes "cnf") (within_p b.p)) (b.b ∷ []) rest refl (omega (arith, b.size))

pub within_standing : {text : List ℕ} {room : ℕ} {s : Stage} {place : ℕ} {rest : List ℕ} → Standing (lined text) room s place rest
    → Within text place rest
within_standing {rest = rest} b =
    within_whole (within_header b.header) b.numbers.before rest b.numbers.whole (omega (arith, b.size, b.numbers.size))

-- at the end of a text
pub end_place : {text : List ℕ} {place : ℕ} → Within text place [] → place ≡ suc (length text)
end_place w = omega (arith, w.left)

-- ── the token at a place ──
-- a token at the front of a list
pub record Next (rest : List ℕ) : Type 0 where
  pub token : List ℕ
  pub here : TokenHere rest token

pub token_here : {text : List ℕ} {place : ℕ} (b : ℕ) (bs : List ℕ) → Within text place (b ∷ bs) → is_separator b ≡ false → Next (b ∷ bs)
token_here b bs w e =
    let run = token_run b bs e in
    go run.token run.after run.whole run.some run.bytes run.ends
  where
    go : (token after : List ℕ) → b ∷ bs ≡ token ++ after → 1 ≤ length token → Passing in_token token → TokenEnds after → Next (b ∷ bs)
    go token [] whole some each ends = absurd (shut_token token some each (subst Shut (whole ∙ append-nil token) w.shut))
    go token (c ∷ cs) whole some each ends =
        record { token = token; here = record { b = c; after = cs; whole = whole; some = some; bytes = each; ends = ends } }

-- ── the tokens from a place on ──
pub tokens_here : {rest token : List ℕ} → (h : TokenHere rest token) → (i : ℕ)
    → tokens_from true i rest ≡ placed i token ∷ tokens_from true (suc (i + length token)) h.after
tokens_here {rest} {token} h i = ap (tokens_from true i) h.whole ∙ past_token i token h.b h.after h.some h.bytes h.ends

pub tokens_behind_lem : (i : ℕ) (gap rest : List ℕ) → Passing is_separator gap → tokens_from true i (gap ++ rest) ≡ tokens_from true (i + length gap) rest
tokens_behind_lem i [] rest e = ap (λ (j : ℕ). tokens_from true j rest) (omega arith)
tokens_behind_lem i (b ∷ gap) rest e =
    skip_one i b (gap ++ rest) e.0
    ∙ tokens_behind_lem (suc i) gap rest e.1
    ∙ ap (λ (j : ℕ). tokens_from true j rest) (omega arith)

pub no_tokens : (i : ℕ) → tokens_from true i [] ≡ []
unfolding tokens_from
no_tokens i = refl
