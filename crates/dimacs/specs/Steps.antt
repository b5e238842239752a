-- What the private functions promise, in the words of File and Contract.
--
-- In order: a refusal, and the next word; the header's words; a count, and both; a number of a clause; the clauses of a file that is
-- accepted. Definitions only.
use Rattle.std.specs.Prelude.{◌≡◌, Bool, true, false, cond, List, [], ◌∷◌, ℕ, zero, suc, ◌+◌, ◌≤◌, length, take, ℤ, pos, negsuc, leb, ltb, Option, Result, Ok, Err}
use Rattle.std.proofs.Math.Option.{none, some}
use Rattle.std.proofs.Math.Option as math
use Rattle.hall.specs.Hall.{Entry, Hall}
use Rattle.hall.specs.Reading.{up_to, as_entry}
use Rattle.refusals.specs.declared.Refusal.{Refusal}
use Rattle.refusals.specs.declared.Refusal.TheVariants.{BadEntry, BadWidth}
use Rattle.refusals.specs.declared.Refused.{Refused}
use Rattle.typed.specs.Text.{got, Token, tokens_at, value_of}
use Rattle.typed.specs.declared.Mistake.{Mistake}
use Rattle.typed.specs.declared.Mistake.TheVariants.{NoRoom}
use Rattle.typed.specs.declared.Found.{Found}
use Rattle.dimacs.specs.declared.Flaw.{Flaw}
use Rattle.dimacs.specs.declared.Flaw.TheVariants.{Text, Sheet, NoHeader, ExtraToken}
use Rattle.dimacs.specs.declared.counts.Count.{Count}
use Rattle.dimacs.specs.declared.Declared.{Declared}
use Rattle.dimacs.specs.declared.clauses.Named.{Named}
use Rattle.dimacs.specs.declared.clauses.Named.TheVariants.{Zero, Device, Outside}
use Rattle.dimacs.specs.declared.clauses.Judged.{Judged}
use Rattle.dimacs.specs.declared.clauses.Judged.TheVariants.{Closes, Enters}
use Rattle.dimacs.specs.declared.lead.Spot.TheVariants.{LineStart}
use Rattle.dimacs.specs.Stage.{Stage, variables, inside, sheet_so_far}
use Rattle.dimacs.specs.File.{Parsed, refused, file, lead_length, count_step, taken, limit_of, ended_at, read_numbers, expected, read_header}
use Rattle.dimacs.specs.Contract.{filed_of}

-- the reading that has this refusal
abbrev pub refusal_of : Refused Flaw → Parsed
refusal_of e = refused e.kind e.place

-- a word of a typed text, whose mistakes are flaws of the file
abbrev pub flawed : Result (Option Found) (Refused Mistake) → Result (Option Found) (Refused Flaw)
flawed (Ok found) = Ok found
flawed (Err e) = Err (record { kind = Text e.kind; place = e.place })

-- ── the header's words ──
-- whatever is read behind the word: it is read from where the word ends on, or the word is missing
abbrev pub WordIs : List ℕ → ℕ → List ℕ → Result ℕ (Refused Flaw) → Type 0
WordIs text from word (Ok end) = (next : List Token → Parsed) → expected word (length text) (tokens_at text from) next ≡ next (tokens_at text end)
WordIs text from word (Err e) = (next : List Token → Parsed) → expected word (length text) (tokens_at text from) next ≡ refusal_of e

-- the tokens behind the comments, read for a sheet of at most so many words
abbrev pub headed : List ℕ → (limit : ℕ) → Parsed
headed text limit = read_header limit (length text) (tokens_at text (lead_length LineStart text))

abbrev pub HeaderIs : List ℕ → Result ℕ (Refused Flaw) → Type 0
HeaderIs text (Ok end) = (limit : ℕ) → headed text limit ≡ read_numbers limit (length text) variables (tokens_at text end)
HeaderIs text (Err e) = (limit : ℕ) → headed text limit ≡ refusal_of e

-- ── the counts ──
-- a number from 0 to `most`, from `start` to `end`
pub record CountFound (text : List ℕ) (from most n start end : ℕ) : Type 0 where
  pub token : Token
  pub first : tokens_at text from ≡ token ∷ tokens_at text end
  pub says : value_of token ≡ got (pos n)
  pub place : token.place ≡ start
  pub small : n ≤ most

-- a stage of the header, at which this count is due
pub record CountDue (most : ℕ) (kind : Refusal) (s : Stage) : Type 0 where
  pub next : ℕ → Stage
  pub takes : (z : ℤ) → taken s z ≡ count_step kind next (up_to most z)
  pub ends : (end : ℕ) → ended_at end s ≡ refused NoHeader end

abbrev pub CountIs : List ℕ → (from most : ℕ) → Refusal → Result Count (Refused Flaw) → Type 0
CountIs text from most kind (Ok c) = CountFound text from most c.number c.start c.end
CountIs text from most kind (Err e) =
    (s : Stage) → CountDue most kind s → (limit : ℕ) → read_numbers limit (length text) s (tokens_at text from) ≡ refusal_of e

-- both counts, with room for them
pub record CountsFound (text : List ℕ) (from limit n m end : ℕ) : Type 0 where
  pub rest :
      read_numbers limit (length text) variables (tokens_at text from) ≡ read_numbers limit (length text) (inside n m [] []) (tokens_at text end)
  pub fits : n + 2 ≤ limit

abbrev pub CountsAre : List ℕ → (from limit : ℕ) → Result Declared (Refused Flaw) → Type 0
CountsAre text from limit (Ok c) = CountsFound text from limit c.variables c.clauses c.end
CountsAre text from limit (Err e) = read_numbers limit (length text) variables (tokens_at text from) ≡ refusal_of e

-- ── a number of a clause ──
abbrev pub named_by : math.Option Entry → Named
named_by none = Outside
named_by (some e) = Device

abbrev pub named_of : (n : ℕ) → ℤ → Named
named_of n (pos zero) = Zero
named_of n (pos (suc v)) = named_by (as_entry n (pos (suc v)))
named_of n (negsuc v) = named_by (as_entry n (negsuc v))

-- no sum of these leaves a machine's numbers
pub record Small (closed width head : ℕ) : Type 0 where
  pub few : closed ≤ 2000
  pub narrow : width ≤ 32
  pub short : head ≤ 16384

-- what a number does, where `closed` clauses are closed, the sheet up to them has `head` words, and the open one has `width` entries
abbrev pub room_for : Bool → Judged → Result Judged Flaw
room_for true j = Ok j
room_for false j = Err (Text NoRoom)

abbrev pub judged_by : (limit closed width head : ℕ) → Named → Result Judged Flaw
judged_by limit closed width head Zero = room_for (leb (head + width + 1) limit) Closes
judged_by limit closed width head Outside = Err (Sheet BadEntry)
judged_by limit closed width head Device =
    cond (ltb width 32) (room_for (leb (head + width + 2) limit) Enters) (Err (Sheet (BadWidth (closed + 1))))

abbrev pub judged_of : (n m limit closed width head : ℕ) → ℤ → Result Judged Flaw
judged_of n m limit closed width head z = cond (leb m closed) (Err ExtraToken) (judged_by limit closed width head (named_of n z))

-- ── the clauses ──
pub record ScanFits (n limit : ℕ) : Type 0 where
  pub fits : n + 2 ≤ limit
  pub short : limit ≤ 16384

-- the answer to the clauses, behind the counts; a sheet has at least the counts
abbrev pub HasCounts : (n : ℕ) → Result ℕ (Refused Flaw) → Type 0
HasCounts n (Ok w) = n + 2 ≤ w
HasCounts n (Err e) = Unit {0}

pub record Scans (text : List ℕ) (from n m limit : ℕ) (r : Result ℕ (Refused Flaw)) : Type 0 where
  pub says : r ≡ filed_of (read_numbers limit (length text) (inside n m [] []) (tokens_at text from))
  pub counts : HasCounts n r

-- clauses that are accepted, behind the counts, which stand in front of the room
pub record FillFits (text : List ℕ) (from n m : ℕ) (room : List ℤ) : Type 0 where
  pub scan : ScanFits n (limit_of (length room))
  pub counts : take (n + 2) room ≡ sheet_so_far (inside n m [] [])
  pub hall : Hall
  pub read : read_numbers (limit_of (length room)) (length text) (inside n m [] []) (tokens_at text from) ≡ file hall
