-- The reasons for a refusal, apart from the reader (File). 02, request 2.
--
-- In order: a token at a place; the reason of each kind, in the order of their codes. Each speaks of the text with a line end behind it
-- (Standing). That each refusal is given for its reason and only for it is a theorem (proofs/Verdicts). Definitions only.
use Rattle.std.specs.Prelude.{◌≡◌, ◌⊎◌, ◌≢◌, Bool, true, false, List, [], ◌∷◌, ◌++◌, ℕ, suc, ◌+◌, ◌≤◌, ◌<◌, length, ℤ, pos}
use Rattle.lists.specs.Bytes.{bytes}
use Rattle.hall.specs.Hall.{Entry, device, Rule}
use Rattle.hall.specs.Ranges.{entry_words}
use Rattle.hall.specs.Due.{size, from_zero_to}
use Rattle.typed.specs.Text.{is_separator, in_token}
use Rattle.typed.specs.Allowed.{Passing, Allowed}
use Rattle.typed.specs.Reasons.{Wrong, Bad, HasManyBytes}
use Rattle.refusals.specs.declared.Refusal.{Refusal}
use Rattle.refusals.specs.declared.Refusal.TheVariants.{TooShort, BadDeviceCount, BadCost, BadEntry, ExtraWords, SmallRoom, BadRuleCount, BadWidth}
use Rattle.refusals.specs.declared.Refusal.TheVariants.{TooLong as SheetTooLong}
use Rattle.typed.specs.declared.Mistake.{Mistake}
use Rattle.typed.specs.declared.Mistake.TheVariants.{WrongByte, BadNumber, TooLong, NoRoom}
use Rattle.dimacs.specs.declared.Flaw.{Flaw}
use Rattle.dimacs.specs.declared.Flaw.TheVariants.{Text, Sheet, NoHeader, NotClosed, ExtraToken}
use Rattle.dimacs.specs.Stage.{Stage, variables, clauses, inside, sheet_so_far}
use Rattle.dimacs.specs.Standing.{lined, BehindLead, BehindP, Standing}

-- ── a token at a place ──
-- a longest run of bytes other than separators
pub record TokenHere (rest token : List ℕ) : Type 0 where
  pub b : ℕ
  pub after : List ℕ
  pub whole : rest ≡ token ++ (b ∷ after)
  pub some : 1 ≤ length token
  pub bytes : Passing in_token token
  pub ends : is_separator b ≡ true

-- a token behind what was read up to a stage
pub record TokenAt (text : List ℕ) (room : ℕ) (s : Stage) (place : ℕ) (token : List ℕ) : Type 0 where
  pub short : length text ≤ 60000
  pub rest : List ℕ
  pub stands : Standing (lined text) room s place rest
  pub here : TokenHere rest token

-- one that is an allowed number
pub record NumberAt (text : List ℕ) (room : ℕ) (s : Stage) (place : ℕ) (z : ℤ) : Type 0 where
  pub token : List ℕ
  pub here : TokenAt text room s place token
  pub allowed : Allowed token z

-- ── 12, 18, 14, 19 ──
-- "12 and 18 for the counts"
pub record HasBadDeviceCount (i : ℕ) (text : List ℕ) (room : ℕ) : Type 0 where
  pub z : ℤ
  pub number : NumberAt text room variables i z
  pub outside : from_zero_to 200 z ≡ false

pub record HasBadRuleCount (i : ℕ) (text : List ℕ) (room : ℕ) : Type 0 where
  pub n : ℕ
  pub z : ℤ
  pub number : NumberAt text room (clauses n) i z
  pub outside : from_zero_to 2000 z ≡ false

-- "14": a number of a declared clause, neither 0 nor from 1 to n without its sign
pub record HasBadEntry (i : ℕ) (text : List ℕ) (room : ℕ) : Type 0 where
  pub n : ℕ
  pub m : ℕ
  pub closed : List Rule
  pub entries : Rule
  pub z : ℤ
  pub number : NumberAt text room (inside n m closed entries) i z
  pub declared : length closed < m
  pub outside : n < size z

-- "then 19 at an entry too many, with the clause's number"
pub record HasBadWidth (clause i : ℕ) (text : List ℕ) (room : ℕ) : Type 0 where
  pub n : ℕ
  pub m : ℕ
  pub closed : List Rule
  pub entries : Rule
  pub z : ℤ
  pub number : NumberAt text room (inside n m closed entries) i z
  pub declared : length closed < m
  pub some : 1 ≤ size z
  pub named : size z ≤ n
  pub full : length entries ≡ 32
  pub which : clause ≡ suc (length closed)

-- ── 21, 22, 24 ──
-- "21 and 22 for any later token": "for 21 as in 01"
pub record HasWrongByte (i : ℕ) (text : List ℕ) (room : ℕ) : Type 0 where
  pub s : Stage
  pub place : ℕ
  pub token : List ℕ
  pub here : TokenAt text room s place token
  pub before : ℕ
  pub wrong : Wrong token before
  pub byte : i ≡ place + before

pub record HasBadNumber (i : ℕ) (text : List ℕ) (room : ℕ) : Type 0 where
  pub s : Stage
  pub token : List ℕ
  pub here : TokenAt text room s i token
  pub bad : Bad token

-- a number that is in order leads from one stage to another
pub data Leads : Stage → ℤ → Stage → Type 0 where
  variable_count : {n : ℕ} → n ≤ 200 → Leads variables (pos n) (clauses n)
  clause_count : {n m : ℕ} → m ≤ 2000 → Leads (clauses n) (pos m) (inside n m [] [])
  entry : {n m : ℕ} {closed : List Rule} {entries : Rule} {z : ℤ} (e : Entry) → length closed < m → entry_words e ≡ z ∷ []
      → device e < n → length entries < 32
      → Leads (inside n m closed entries) z (inside n m closed (entries ++ (e ∷ [])))
  close : {n m : ℕ} {closed : List Rule} {entries : Rule} → length closed < m
      → Leads (inside n m closed entries) (pos 0) (inside n m (closed ++ (entries ∷ [])) [])

-- "24 where the sheet so far needs more words than the room has or than 16,384"
pub record HasNoRoom (i : ℕ) (text : List ℕ) (room : ℕ) : Type 0 where
  pub s : Stage
  pub z : ℤ
  pub number : NumberAt text room s i z
  pub next : Stage
  pub leads : Leads s z next
  pub over : (room < length (sheet_so_far next)) ⊎ (16384 < length (sheet_so_far next))

-- ── 31, 32, 33 ──
-- where a line begins, a token that begins with `c` would be a comment
abbrev pub NoComment : (begins : Bool) → (token : List ℕ) → Type 0
NoComment false token = Unit {0}
NoComment true [] = Unit {0}
NoComment true (b ∷ bs) = b ≢ 99

-- "31 where `p` or `cnf` should stand and doesn't, or the text ends before a count"
pub data HeaderFails (text : List ℕ) (room : ℕ) : (i : ℕ) → Type 0 where
  other_p : {ends : Bool} {i : ℕ} {rest : List ℕ} (token : List ℕ) → BehindLead (lined text) ends i rest → TokenHere rest token
      → NoComment ends token
      → token ≢ bytes "p"
      → HeaderFails text room i
  other_cnf : {i : ℕ} {rest : List ℕ} (token : List ℕ) → BehindP (lined text) i rest → TokenHere rest token → token ≢ bytes "cnf"
      → HeaderFails text room i
  no_p : {ends : Bool} → BehindLead (lined text) ends (suc (length text)) [] → HeaderFails text room (length text)
  no_cnf : BehindP (lined text) (suc (length text)) [] → HeaderFails text room (length text)
  no_variables : Standing (lined text) room variables (suc (length text)) [] → HeaderFails text room (length text)
  no_clauses : (n : ℕ) → Standing (lined text) room (clauses n) (suc (length text)) [] → HeaderFails text room (length text)

pub record HasNoHeader (i : ℕ) (text : List ℕ) (room : ℕ) : Type 0 where
  pub short : length text ≤ 60000
  pub header : HeaderFails text room i

-- "at the end 32 for a clause missing or not closed"
pub record HasNotClosed (i : ℕ) (text : List ℕ) (room : ℕ) : Type 0 where
  pub short : length text ≤ 60000
  pub n : ℕ
  pub m : ℕ
  pub closed : List Rule
  pub entries : Rule
  pub stands : Standing (lined text) room (inside n m closed entries) (suc (length text)) []
  pub fewer : length closed < m
  pub place : i ≡ length text

-- "33 after the last clause declared"
pub record HasExtraToken (i : ℕ) (text : List ℕ) (room : ℕ) : Type 0 where
  pub n : ℕ
  pub m : ℕ
  pub closed : List Rule
  pub entries : Rule
  pub z : ℤ
  pub number : NumberAt text room (inside n m closed entries) i z
  pub all : length closed ≡ m

-- the reason for a refusal of each kind, with its place; 11, 13 and 15 to 17 are never given
abbrev pub TextReason : Mistake → ℕ → List ℕ → ℕ → Type 0
TextReason WrongByte i text room = HasWrongByte i text room
TextReason BadNumber i text room = HasBadNumber i text room
TextReason TooLong i text room = HasManyBytes i text
TextReason NoRoom i text room = HasNoRoom i text room

abbrev pub SheetReason : Refusal → ℕ → List ℕ → ℕ → Type 0
SheetReason TooShort i text room = ⊥
SheetReason BadDeviceCount i text room = HasBadDeviceCount i text room
SheetReason BadCost i text room = ⊥
SheetReason BadEntry i text room = HasBadEntry i text room
SheetReason ExtraWords i text room = ⊥
SheetReason SmallRoom i text room = ⊥
SheetReason SheetTooLong i text room = ⊥
SheetReason BadRuleCount i text room = HasBadRuleCount i text room
SheetReason (BadWidth clause) i text room = HasBadWidth clause i text room

abbrev pub Reason : Flaw → ℕ → List ℕ → ℕ → Type 0
Reason (Text mistake) i text room = TextReason mistake i text room
Reason (Sheet refusal) i text room = SheetReason refusal i text room
Reason NoHeader i text room = HasNoHeader i text room
Reason NotClosed i text room = HasNotClosed i text room
Reason ExtraToken i text room = HasExtraToken i text room
