-- What is read behind what stands before a place.
--
-- In order: the text that is short enough (`short_file`); from a place on (`standing_reads`), at a token there (`at_token`), at a number
-- with a flaw (`at_number`), and at the end (`at_end`); where the header fails (`header_fails`). Assumes nothing.
use mathlib.Core.Path.{◌≡◌, sym, ◌∙◌, ap}
use mathlib.Core.Logic.{◌≢◌}
use mathlib.Core.Bool.{true}
use mathlib.Core.List.{List, [], ◌∷◌}
use Prim.Native.Nat.{ℕ, suc, ◌+◌, ◌≤◌}
use native.Mathlib.Omega.{arith}
use lib.ListN.{length}
use lib.IntN.{ℤ}
use Rattle.lists.specs.Bytes.{bytes}
use Rattle.typed.specs.Text as typed
use Rattle.typed.specs.Text.{Token, placed, tokens_from, tokens_at}
use Rattle.typed.proofs.Sayings.{says_only}
use Rattle.dimacs.specs.declared.Flaw.{Flaw}
use Rattle.dimacs.specs.declared.Flaw.TheVariants.{NoHeader}
use Rattle.dimacs.specs.declared.lead.Spot.TheVariants.{LineStart}
use Rattle.dimacs.specs.Stage.{Stage, variables, sheet_so_far}
use Rattle.dimacs.specs.File.{Parsed, refused, lead_length, limit_of, ended_at, read_numbers, read_header, read_file}
use Rattle.dimacs.specs.Standing.{lined, Standing}
use Rattle.dimacs.specs.Reasons.{TokenAt, NumberAt, HeaderFails, other_p, other_cnf, no_p, no_cnf, no_variables, no_clauses}
use Rattle.dimacs.proofs.Lined.{lead_lined}
use Rattle.dimacs.proofs.Limits.{short_enough, limit_holds}
use Rattle.dimacs.proofs.HeaderWords.{after_p}
use Rattle.dimacs.proofs.Stepping.{numbers_end, numbers_flaw}
use Rattle.dimacs.proofs.Comments.{token_begins, none_begins, behind_lead}
use Rattle.dimacs.proofs.Places.{tokens_here, no_tokens}
use Rattle.dimacs.proofs.Heading.{word_missing, behind_p_lem, behind_header}
use Rattle.dimacs.proofs.OneNumber.{Flawed, flawed_taken}
use Rattle.dimacs.proofs.Stages.{closed_numbers, stage_takes}

-- the tokens behind the comment lines, read for a room
abbrev read : List ℕ → (room : ℕ) → List Token → Parsed
read text room ts = read_header (limit_of room) (length text) ts

-- the numbers of some tokens behind a stage
abbrev read_on : List ℕ → (room : ℕ) → Stage → List Token → Parsed
read_on text room s ts = read_numbers (limit_of room) (length text) s ts

module _ (text : List ℕ) (room : ℕ) where
  abbrev leading : List Token
  leading = tokens_at (lined text) (lead_length LineStart (lined text))

  short_file : length text ≤ 60000 → read_file text room ≡ read text room leading
  short_file h = short_enough text room h ∙ ap (read text room) (sym (lead_lined text))

  -- ── behind a place ──
  module _ {s : Stage} {place : ℕ} where
    standing_reads : {rest : List ℕ} → length text ≤ 60000 → Standing (lined text) room s place rest
        → read_file text room ≡ read_on text room s (tokens_from true place rest)
    standing_reads {rest} short st =
        let takes = stage_takes (limit_of room) s st.ranges ((limit_holds room (length (sheet_so_far s))).1 (st.fits, st.short)) in
        short_file short
        ∙ behind_header (limit_of room) (length text) st.header
        ∙ ap (λ (l : List ℕ). read_on text room variables (tokens_from true st.first l)) st.numbers.whole
        ∙ closed_numbers (length text) st.numbers.closed st.first rest takes
        ∙ ap (λ (j : ℕ). read_on text room s (tokens_from true j rest)) (omega (arith, st.size, st.numbers.size))

    pub at_token : {token : List ℕ} (x : Parsed) → TokenAt text room s place token → ((ts : List Token) → read_on text room s (placed place token ∷ ts) ≡ x)
        → read_file text room ≡ x
    at_token {token} x t says =
        standing_reads t.short t.stands
        ∙ ap (read_on text room s) (tokens_here t.here place)
        ∙ says (tokens_from true (suc (place + length token)) t.here.after)

    pub at_number : {z : ℤ} (f : Flaw) → NumberAt text room s place z → Flawed s z f → read_file text room ≡ refused f place
    at_number {z} f q flawed =
        at_token (refused f place) q.here λ ts.
        numbers_flaw (limit_of room) (length text) s (placed place q.token) ts z (says_only place q.token (typed.got z) q.allowed) f (flawed_taken flawed)

    pub at_end : length text ≤ 60000 → Standing (lined text) room s place [] → read_file text room ≡ ended_at (length text) s
    at_end short st = standing_reads short st ∙ ap (read_on text room s) (no_tokens place) ∙ numbers_end (limit_of room) (length text) s

-- ── the header ──
module _ (text : List ℕ) (room : ℕ) (short : length text ≤ 60000) where
  no_p_lem : (i : ℕ) → read text room (tokens_from true i []) ≡ refused NoHeader (length text)
  unfolding read_header
  no_p_lem i = ap (read text room) (no_tokens i)

  other_p_lem : (i : ℕ) (token : List ℕ) (ts : List Token) → token ≢ bytes "p" → read text room (placed i token ∷ ts) ≡ refused NoHeader i
  unfolding read_header
  other_p_lem i token ts n = word_missing (bytes "p") (length text) i token ts (after_p (limit_of room) (length text)) n

  pub header_fails : {i : ℕ} → HeaderFails text room i → read_file text room ≡ refused NoHeader i
  header_fails (other_p {ends} {i} {rest} token l here c n) =
      short_file text room short
      ∙ ap (read text room) (behind_lead l (token_begins ends rest token here c) ∙ tokens_here here i)
      ∙ other_p_lem i token (tokens_from true (suc (i + length token)) here.after) n
  header_fails (other_cnf {i} {rest} token p here n) =
      let ts = tokens_from true (suc (i + length token)) here.after in
      short_file text room short
      ∙ behind_p_lem (limit_of room) (length text) p
      ∙ ap (after_p (limit_of room) (length text)) (tokens_here here i)
      ∙ word_missing (bytes "cnf") (length text) i token ts (read_on text room variables) n
  header_fails (no_p {ends} l) =
      short_file text room short
      ∙ ap (read text room) (behind_lead l (none_begins ends))
      ∙ no_p_lem (suc (length text))
  header_fails (no_cnf p) =
      short_file text room short
      ∙ behind_p_lem (limit_of room) (length text) p
      ∙ ap (after_p (limit_of room) (length text)) (no_tokens (suc (length text)))
  header_fails (no_variables st) = at_end text room short st
  header_fails (no_clauses n st) = at_end text room short st
