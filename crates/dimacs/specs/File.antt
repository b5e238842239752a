-- A DIMACS CNF file, and what reading it comes to. 02, request 2, "Rule files from solver people".
--
-- In order: the numbers of a refusal; the comment lines; one number; the numbers one after another, with 24; the header's two words;
-- the whole, with 23. A token and its value are those of Rattle.typed.specs.Text. Not here: the stages and the sheet so far (Stage),
-- the answer's numbers and the room (Contract). Definitions only.
use Rattle.std.specs.Prelude.{Bool, true, false, cond, ◌&&◌, List, [], ◌∷◌, ◌++◌, ℕ, zero, suc, length, ℤ, pos, negsuc, leb, ltb, eqb}
use Rattle.std.proofs.Math.Option.{Option, none, some}
use Rattle.lists.specs.Bytes.{bytes}
use Rattle.hall.specs.Hall.{Entry, Rule, Hall}
use Rattle.hall.specs.Reading.{up_to, as_entry}
use Rattle.refusals.specs.Contract.{numbers_at}
use Rattle.refusals.specs.declared.Refusal.{Refusal}
use Rattle.refusals.specs.declared.Refusal.TheVariants.{BadDeviceCount, BadEntry, BadRuleCount, BadWidth}
use Rattle.typed.specs.Text as typed
use Rattle.typed.specs.Text.{mistake_code, is_separator, Token, tokens_at, value_of}
use Rattle.typed.specs.declared.Mistake.TheVariants.{TooLong, NoRoom}
use Rattle.dimacs.specs.Stage.{Stage, variables, clauses, inside, unit_hall, sheet_so_far}
use Rattle.dimacs.specs.declared.Flaw.{Flaw}
use Rattle.dimacs.specs.declared.Flaw.TheVariants.{Text, Sheet, NoHeader, NotClosed, ExtraToken}
use Rattle.dimacs.specs.declared.lead.Spot.{Spot}
use Rattle.dimacs.specs.declared.lead.Spot.TheVariants.{LineStart, Blank, Comment, TokenStart}

-- "Refusals": 21 to 24 and 12, 14, 18, 19 have the numbers that they have elsewhere, 19 "with the clause's number"
abbrev pub flaw_numbers : Flaw → (place : ℕ) → List ℕ
flaw_numbers (Text mistake) place = mistake_code mistake ∷ place ∷ []
flaw_numbers (Sheet refusal) place = numbers_at refusal place
flaw_numbers NoHeader place = 31 ∷ place ∷ []
flaw_numbers NotClosed place = 32 ∷ place ∷ []
flaw_numbers ExtraToken place = 33 ∷ place ∷ []

-- what reading comes to: a refusal and its place, or a hall. "Places are bytes"
pub data Parsed : Type 0 where
  refused : Flaw → (place : ℕ) → Parsed
  file : Hall → Parsed

-- ── the comment lines ──
-- a byte of a line that is no comment: the line's end, another separator, or a token's first byte
abbrev pub line_byte : ℕ → Spot
line_byte b = cond (eqb b 10) LineStart (cond (is_separator b) Blank TokenStart)

-- "lines (to byte 10) starting with `c` before the header are comments": where a byte leads from the start of a line, from the
-- separators in front of a token, or from a comment; `c` is the byte 99
abbrev pub spot_after : Spot → ℕ → Spot
spot_after LineStart b = cond (eqb b 99) Comment (line_byte b)
spot_after Blank b = line_byte b
spot_after Comment b = cond (eqb b 10) LineStart Comment
spot_after TokenStart b = TokenStart

-- so many bytes more, where no token begins
abbrev pub passing : Spot → ℕ → ℕ
passing TokenStart more = 0
passing LineStart more = suc more
passing Blank more = suc more
passing Comment more = suc more

-- how many bytes stand before the first token
unfoldable pub lead_length : Spot → List ℕ → ℕ
lead_length spot [] = 0
lead_length spot (b ∷ bs) = passing (spot_after spot b) (lead_length (spot_after spot b) bs)

-- ── one number ──
pub data Step : Type 0 where
  flaw : Flaw → Step
  on : Stage → Step

-- "12 and 18 for the counts"
abbrev pub count_step : Refusal → (ℕ → Stage) → Option ℕ → Step
count_step kind next none = flaw (Sheet kind)
count_step kind next (some count) = on (next count)

-- "14, then 19 at an entry too many, with the clause's number"
abbrev pub widened : Bool → (n m : ℕ) (closed : List Rule) (entries : Rule) → Entry → Step
widened true n m closed entries e = on (inside n m closed (entries ++ (e ∷ [])))
widened false n m closed entries e = flaw (Sheet (BadWidth (suc (length closed))))

abbrev pub entered : (n m : ℕ) (closed : List Rule) (entries : Rule) → Option Entry → Step
entered n m closed entries none = flaw (Sheet BadEntry)
entered n m closed entries (some e) = widened (ltb (length entries) 32) n m closed entries e

-- "each clause closed by 0"
abbrev pub in_clause : (n m : ℕ) (closed : List Rule) (entries : Rule) → ℤ → Step
in_clause n m closed entries (pos zero) = on (inside n m (closed ++ (entries ∷ [])) [])
in_clause n m closed entries (pos (suc v)) = entered n m closed entries (as_entry n (pos (suc v)))
in_clause n m closed entries (negsuc v) = entered n m closed entries (as_entry n (negsuc v))

-- "33 after the last clause declared"
abbrev pub behind_by : Bool → (n m : ℕ) (closed : List Rule) (entries : Rule) → ℤ → Step
behind_by true n m closed entries z = flaw ExtraToken
behind_by false n m closed entries z = in_clause n m closed entries z

unfoldable pub taken : Stage → ℤ → Step
taken variables z = count_step BadDeviceCount clauses (up_to 200 z)
taken (clauses n) z = count_step BadRuleCount (λ m. inside n m [] []) (up_to 2000 z)
taken (inside n m closed entries) z = behind_by (leb m (length closed)) n m closed entries z

-- ── the numbers one after another ──
-- "21 and 22 for any later token"
abbrev pub valued : typed.Read ℤ → (ℤ → Parsed) → Parsed
valued (typed.refused mistake place) next = refused (Text mistake) place
valued (typed.got z) next = next z

abbrev pub stepped : (place : ℕ) → Step → (Stage → Parsed) → Parsed
stepped place (flaw f) next = refused f place
stepped place (on s) next = next s

-- "24 where the sheet so far needs more words than the room has or than 16,384"
abbrev pub limit_of : (room : ℕ) → ℕ
limit_of room = cond (ltb room 16384) room 16384

abbrev pub fits_by : Bool → (place : ℕ) → Parsed → Parsed
fits_by true place next = next
fits_by false place next = refused (Text NoRoom) place

-- "31 where .. the text ends before a count"; "at the end 32 for a clause missing or not closed"
abbrev pub ended_at : (end : ℕ) → Stage → Parsed
ended_at end variables = refused NoHeader end
ended_at end (clauses n) = refused NoHeader end
ended_at end (inside n m closed entries) = cond (ltb (length closed) m) (refused NotClosed end) (file (unit_hall n closed))

-- "then each token from left to right", for a sheet of at most `limit` words and a text that ends at `end`
unfoldable pub read_numbers : (limit end : ℕ) → Stage → List Token → Parsed
read_numbers limit end s [] = ended_at end s
read_numbers limit end s (t ∷ ts) =
    valued (value_of t) λ z.
    stepped t.place (taken s z) λ next.
    fits_by (leb (length (sheet_so_far next)) limit) t.place (read_numbers limit end next ts)

-- ── the header ──
unfoldable pub same_bytes : List ℕ → List ℕ → Bool
same_bytes [] [] = true
same_bytes [] (c ∷ cs) = false
same_bytes (b ∷ bs) [] = false
same_bytes (b ∷ bs) (c ∷ cs) = eqb b c && same_bytes bs cs

-- "31 where `p` or `cnf` should stand and doesn't": at the token that stands there, or at the text's end
abbrev pub expected : (word : List ℕ) (end : ℕ) → List Token → (List Token → Parsed) → Parsed
expected word end [] next = refused NoHeader end
expected word end (t ∷ ts) next = cond (same_bytes word t.bytes) (next ts) (refused NoHeader t.place)

-- ── the whole ──
-- "the header is `p cnf` and the numbers of variables and clauses; then numbers as in 01"
unfoldable pub read_header : (limit end : ℕ) → List Token → Parsed
read_header limit end ts = expected (bytes "p") end ts λ ts. expected (bytes "cnf") end ts λ ts. read_numbers limit end variables ts

-- "23; then each token from left to right"
unfoldable pub read_file : List ℕ → (room : ℕ) → Parsed
read_file text room =
    cond (ltb 60000 (length text))
    (refused (Text TooLong) 60000)
    (read_header (limit_of room) (length text) (tokens_at text (lead_length LineStart text)))
