-- The header's two words are passed over.
--
-- In order: another word where one should stand (`word_missing`); what is read behind `p` (`behind_p_lem`) and behind the header
-- (`behind_header`). Assumes nothing.
use mathlib.Core.Path.{◌≡◌, refl, ◌∙◌, ap}
use mathlib.Core.Logic.{◌≢◌}
use mathlib.Core.Bool.{Bool, true, false, cond}
use mathlib.Core.List.{List, [], ◌∷◌, ◌++◌}
use Prim.Native.Nat.{ℕ, suc, ◌+◌, ◌≤◌}
use native.Mathlib.Omega.{arith}
use lib.ListN.{length}
use Rattle.lists.specs.Bytes.{bytes}
use Rattle.lists.proofs.Cases.{fails}
use Rattle.typed.specs.Text.{is_separator, Token, placed, tokens_from, tokens_at}
use Rattle.typed.specs.Allowed.{Passing}
use Rattle.typed.specs.Reasons.{TokenEnds}
use Rattle.typed.proofs.Runs.{run_token}
use Rattle.typed.proofs.Reaching.{past_token}
use Rattle.dimacs.specs.declared.Flaw.TheVariants.{NoHeader}
use Rattle.dimacs.specs.declared.lead.Spot.TheVariants.{LineStart}
use Rattle.dimacs.specs.Stage.{variables}
use Rattle.dimacs.specs.File.{Parsed, refused, lead_length, read_numbers, same_bytes, expected, read_header}
use Rattle.dimacs.specs.Standing.{BehindP, BehindHeader}
use Rattle.dimacs.proofs.HeaderWords.{same_bytes_lem, after_p}
use Rattle.dimacs.proofs.Comments.{spot_of, behind_lead}
use Rattle.dimacs.proofs.Places.{tokens_behind_lem}

-- ── one word ──
pub word_missing : (word : List ℕ) (end i : ℕ) (token : List ℕ) (ts : List Token) (next : List Token → Parsed) → token ≢ word
    → expected word end (placed i token ∷ ts) next ≡ refused NoHeader i
word_missing word end i token ts next n =
    let e : same_bytes word token ≡ false = fails (λ (e : same_bytes word token ≡ true). n (same_bytes_lem word token e)) in
    ap (λ (t : Bool). cond t (next ts) (refused NoHeader i)) e

-- ── behind the words ──
gap_ends : (gap rest : List ℕ) → 1 ≤ length gap → Passing is_separator gap → TokenEnds (gap ++ rest)
gap_ends [] rest some e = absurd (omega arith)
gap_ends (b ∷ gap) rest some e = e.0

p_begins : (ends : Bool) (l : List ℕ) → lead_length (spot_of ends) (bytes "p" ++ l) ≡ 0
unfolding lead_length
p_begins true l = refl
p_begins false l = refl

p_goes_on : (limit end i : ℕ) (ts : List Token) → read_header limit end (placed i (bytes "p") ∷ ts) ≡ after_p limit end ts
unfolding read_header same_bytes
p_goes_on limit end i ts = refl

cnf_goes_on : (limit end i : ℕ) (ts : List Token) → after_p limit end (placed i (bytes "cnf") ∷ ts) ≡ read_numbers limit end variables ts
unfolding same_bytes
cnf_goes_on limit end i ts = refl

pub behind_p_lem : {text : List ℕ} {place : ℕ} {rest : List ℕ} (limit end : ℕ) → BehindP text place rest
    → read_header limit end (tokens_at text (lead_length LineStart text)) ≡ after_p limit end (tokens_from true place rest)
behind_p_lem {text} {place} {rest} limit end p =
    ap (read_header limit end)
    (behind_lead p.lead (p_begins p.ends (p.gap ++ rest))
    ∙ run_token p.first (bytes "p") (p.gap ++ rest) (omega arith) (refl, tt) (gap_ends p.gap rest p.some p.blank))
    ∙ p_goes_on limit end p.first (tokens_from true (p.first + 1) (p.gap ++ rest))
    ∙ ap (after_p limit end)
    (tokens_behind_lem (p.first + 1) p.gap rest p.blank
    ∙ ap (λ (j : ℕ). tokens_from true j rest) (omega (arith, p.size)))

pub behind_header : {text : List ℕ} {place : ℕ} {rest : List ℕ} (limit end : ℕ) → BehindHeader text place rest
    → read_header limit end (tokens_at text (lead_length LineStart text)) ≡ read_numbers limit end variables (tokens_from true place rest)
behind_header {text} {place} {rest} limit end h =
    behind_p_lem limit end h.p
    ∙ ap (after_p limit end) (past_token h.first (bytes "cnf") h.b rest (omega arith) (refl, (refl, (refl, tt))) h.blank)
    ∙ cnf_goes_on limit end h.first (tokens_from true (suc (h.first + 3)) rest)
    ∙ ap (λ (j : ℕ). read_numbers limit end variables (tokens_from true j rest)) (omega (arith, h.size))
