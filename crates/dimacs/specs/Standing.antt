-- What stands before a place of a file, and the files that are accepted, apart from the reader (File). 02, request 2.
--
-- A text is looked at with a line end behind it, which closes its last line and its last token. In order: comment lines and blank
-- lines; the header's two words; the numbers of the clauses; what stands before a place where a token may begin; the files that are
-- accepted. That the reader accepts exactly these is a theorem (proofs/Verdicts). Definitions only.
use Rattle.std.specs.Prelude.{◌≡◌, Bool, true, false, List, [], ◌∷◌, ◌++◌, ℕ, suc, ◌+◌, ◌≤◌, ◌<◌, length, ℤ, pos, eqb}
use Rattle.lists.specs.Lists.{Each}
use Rattle.lists.specs.Bytes.{bytes}
use Rattle.hall.specs.Hall.{Rule, Hall}
use Rattle.hall.specs.Ranges.{RuleInRange, words_of, entry_words}
use Rattle.typed.specs.Text.{is_separator}
use Rattle.typed.specs.Allowed.{Passing, Reached}
use Rattle.dimacs.specs.Stage.{Stage, variables, clauses, inside, unit_hall, sheet_so_far}

-- the text with a line end behind it
abbrev pub lined : List ℕ → List ℕ
lined text = text ++ bytes "\n"

-- ── before the header ──
-- "lines (to byte 10) starting with `c` before the header are comments": separators and comment lines, from a place where a line begins
-- (or none does) to one where a line begins (or none does)
pub data Lead : (begins : Bool) → List ℕ → (ends : Bool) → Type 0 where
  nothing : {line : Bool} → Lead line [] line
  separator : {line ends : Bool} {b : ℕ} {bs : List ℕ} → is_separator b ≡ true → Lead (eqb b 10) bs ends → Lead line (b ∷ bs) ends
  comment : {ends : Bool} (l : List ℕ) {bs : List ℕ} → Each (λ b. eqb b 10 ≡ false) l → Lead true bs ends
      → Lead true (99 ∷ (l ++ (10 ∷ bs))) ends

-- the place behind them, and the text from there on
pub record BehindLead (text : List ℕ) (ends : Bool) (place : ℕ) (rest : List ℕ) : Type 0 where
  pub before : List ℕ
  pub lead : Lead true before ends
  pub whole : text ≡ before ++ rest
  pub size : place ≡ length before

-- ── the header's two words ──
-- behind `p` and separators
pub record BehindP (text : List ℕ) (place : ℕ) (rest : List ℕ) : Type 0 where
  pub ends : Bool
  pub first : ℕ
  pub gap : List ℕ
  pub lead : BehindLead text ends first (bytes "p" ++ (gap ++ rest))
  pub some : 1 ≤ length gap
  pub blank : Passing is_separator gap
  pub size : place ≡ first + (1 + length gap)

-- behind `cnf` and a separator
pub record BehindHeader (text : List ℕ) (place : ℕ) (rest : List ℕ) : Type 0 where
  pub first : ℕ
  pub b : ℕ
  pub p : BehindP text first (bytes "cnf" ++ (b ∷ rest))
  pub blank : is_separator b ≡ true
  pub size : place ≡ first + 4

-- ── the numbers ──
-- "each clause closed by 0"
abbrev pub clause_numbers : Rule → List ℤ
clause_numbers c = words_of entry_words c ++ (pos 0 ∷ [])

-- the numbers that were read up to a stage
unfoldable pub numbers_to : Stage → List ℤ
numbers_to variables = []
numbers_to (clauses n) = pos n ∷ []
numbers_to (inside n m closed entries) = pos n ∷ pos m ∷ (words_of clause_numbers closed ++ words_of entry_words entries)

-- "The limits of 01 hold"; a clause is open only where it is declared
pub record ClausesInRange (n m : ℕ) (closed : List Rule) (entries : Rule) : Type 0 where
  pub devices : n ≤ 200
  pub count : m ≤ 2000
  pub declared : length closed ≤ m
  pub good : Each (RuleInRange n) closed
  pub unclosed : RuleInRange n entries
  pub last : 1 ≤ length entries → length closed < m

abbrev pub InRange : Stage → Type 0
InRange variables = Unit {0}
InRange (clauses n) = n ≤ 200
InRange (inside n m closed entries) = ClausesInRange n m closed entries

-- what stands before a place where a token may begin: comments, the header's words, and the numbers up to a stage, within the limits
-- and for a room of so many words
pub record Standing (text : List ℕ) (room : ℕ) (s : Stage) (place : ℕ) (rest : List ℕ) : Type 0 where
  pub first : ℕ
  pub tail : List ℕ
  pub header : BehindHeader text first tail
  pub behind : ℕ
  pub numbers : Reached tail (numbers_to s) behind rest
  pub size : place ≡ first + behind
  pub ranges : InRange s
  pub fits : length (sheet_so_far s) ≤ room
  pub short : length (sheet_so_far s) ≤ 16384

-- the files that are accepted, for a room of so many words, with the hall: exactly the clauses that are declared stand there, and nothing
-- behind them
pub record Accepted (text : List ℕ) (room : ℕ) (h : Hall) : Type 0 where
  pub short : length text ≤ 60000
  pub n : ℕ
  pub rules : List Rule
  pub stands : Standing (lined text) room (inside n (length rules) rules []) (suc (length text)) []
  pub hall : h ≡ unit_hall n rules
