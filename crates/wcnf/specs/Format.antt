-- How WCNF text is read, in both editions, as solvers are told to read it and not as we write it: the rules of the MaxSAT
-- evaluations up to 2021 and from 2022 on.
--
-- In order: the pieces of a text; lines and tokens; numbers and literals; the literals of a clause, to the 0 that ends it; what
-- starts a clause, in either edition; a line; all lines; the first line of the edition before 2022; a whole text. A clause
-- stands on a line of its own; a line that begins with `c` is a comment; blanks at either end of a line, and lines of blanks,
-- mean nothing. The same literal may stand twice in a clause. Definitions only; `none` says that a text is not of the format.
use Rattle.std.specs.Prelude.{Bool, true, false, cond, ◌&&◌, ◌||◌, List, [], ◌∷◌, ◌++◌, ℕ, zero, suc, max, length, eqb, leb, ltb}
use Rattle.std.proofs.Math.Option.{Option, none, some}
use Rattle.lists.specs.Bytes.{bytes}
use Rattle.hall.specs.Hall.{Entry, at1, at0, device, Rule}
use Rattle.typed.specs.Text.{digits_in, decimal}
use Rattle.rails.specs.Weighted.{Clause, hard, soft, literals}
use Rattle.wcnf.specs.declared.Edition.{Edition}
use Rattle.wcnf.specs.declared.Edition.TheVariants.{Since2022, Before2022}

-- the first reading that fails decides
abbrev pub then : {A B : Type 0} → Option A → (A → Option B) → Option B
then none k = none
then (some a) k = k a

-- ── lines and tokens ──
-- a piece that has ended goes in front of the others, unless it is empty
abbrev pub ended : List ℕ → List (List ℕ) → List (List ℕ)
ended [] rest = rest
ended (b ∷ bs) rest = (b ∷ bs) ∷ rest

-- the pieces of a text between the bytes that cut it, behind the bytes of a piece that is going on
unfoldable pub pieces : (ℕ → Bool) → (begun : List ℕ) → List ℕ → List (List ℕ)
pieces cuts begun [] = ended begun []
pieces cuts begun (b ∷ bs) = cond (cuts b) (ended begun (pieces cuts [] bs)) (pieces cuts (begun ++ (b ∷ [])) bs)

-- byte 10 ends a line; blanks, tabs and byte 13 stand between tokens
abbrev pub ends_line : ℕ → Bool
ends_line b = eqb b 10

abbrev pub is_blank : ℕ → Bool
is_blank b = eqb b 9 || eqb b 13 || eqb b 32

abbrev pub tokens_of : List ℕ → List (List ℕ)
tokens_of line = pieces is_blank [] line

-- "c": a comment
abbrev pub is_comment : List ℕ → Bool
is_comment [] = false
is_comment (b ∷ bs) = eqb b 99

-- a line's tokens go in front of the others', unless it is a comment or has none
abbrev pub unless_empty : {A : Type 0} → List A → List (List A) → List (List A)
unless_empty [] rest = rest
unless_empty (t ∷ ts) rest = (t ∷ ts) ∷ rest

unfoldable pub lines_of : List (List ℕ) → List (List (List ℕ))
lines_of [] = []
lines_of (l ∷ ls) = cond (is_comment l) (lines_of ls) (unless_empty (tokens_of l) (lines_of ls))

-- the lines of a text that say something, each as its tokens
abbrev pub telling : List ℕ → List (List (List ℕ))
telling text = lines_of (pieces ends_line [] text)

-- ── numbers and literals ──
-- the same bytes
unfoldable pub same : List ℕ → List ℕ → Bool
same [] [] = true
same [] (b ∷ bs) = false
same (a ∷ l) [] = false
same (a ∷ l) (b ∷ bs) = eqb a b && same l bs

-- one digit or more, and nothing else
abbrev pub is_number : List ℕ → Bool
is_number t = ltb 0 (length t) && eqb (digits_in t) (length t)

abbrev pub number : List ℕ → Option ℕ
number t = cond (is_number t) (some (decimal 0 t)) none

-- a variable's number, from 1, is a literal; so is its negation
abbrev pub literal_by : (ℕ → Entry) → ℕ → Option Entry
literal_by sign zero = none
literal_by sign (suc v) = some (sign v)

-- a minus is the byte 45
abbrev pub literal : List ℕ → Option Entry
literal [] = none
literal (b ∷ bs) = cond (eqb b 45) (then (number bs) λ n. literal_by at0 n) (then (number (b ∷ bs)) λ n. literal_by at1 n)

-- ── a line ──
-- the literals of a clause and the 0 that ends it, which is the last token of its line
unfoldable pub literals_to0 : List (List ℕ) → Option Rule
literals_to0 [] = none
literals_to0 (t ∷ []) = cond (same t (bytes "0")) (some []) none
literals_to0 (t ∷ u ∷ ts) = then (literal t) λ e. then (literals_to0 (u ∷ ts)) λ es. some (e ∷ es)

-- from 2022: `h` starts a hard clause, a weight of at least 1 a soft one
abbrev pub soft_by : ℕ → Option (Rule → Clause)
soft_by zero = none
soft_by (suc w) = some (soft (suc w))

abbrev pub start_since : List ℕ → Option (Rule → Clause)
start_since t = cond (same t (bytes "h")) (some hard) (then (number t) soft_by)

-- before 2022: a weight; the top weight starts a hard clause, one of at least 1 and below it a soft one
abbrev pub start_at : (top : ℕ) → ℕ → Option (Rule → Clause)
start_at top w = cond (eqb w top) (some hard) (cond (ltb w top) (soft_by w) none)

abbrev pub start_before : (top : ℕ) → List ℕ → Option (Rule → Clause)
start_before top t = then (number t) λ w. start_at top w

abbrev pub clause_of : (List ℕ → Option (Rule → Clause)) → List (List ℕ) → Option Clause
clause_of start [] = none
clause_of start (t ∷ ts) = then (start t) λ kind. then (literals_to0 ts) λ es. some (kind es)

unfoldable pub clauses_of : (List ℕ → Option (Rule → Clause)) → List (List (List ℕ)) → Option (List Clause)
clauses_of start [] = some []
clauses_of start (l ∷ ls) = then (clause_of start l) λ c. then (clauses_of start ls) λ cs. some (c ∷ cs)

-- ── a text ──
-- the number of variables, and the clauses
pub record Formula : Type 0 where
  pub variables : ℕ
  pub clauses : List Clause

-- the largest variable of some literals, and of some clauses, counted from 1
unfoldable pub largest_in : Rule → ℕ
largest_in [] = 0
largest_in (e ∷ es) = max (suc (device e)) (largest_in es)

unfoldable pub largest : List Clause → ℕ
largest [] = 0
largest (c ∷ cs) = max (largest_in (literals c)) (largest cs)

-- from 2022: the variables are those up to the largest that is named
abbrev pub since_of : List (List (List ℕ)) → Option Formula
since_of ls = then (clauses_of start_since ls) λ cs. some (record { variables = largest cs; clauses = cs })

-- before 2022: `p wcnf`, the number of variables, "the exact number of clauses" and the top weight
pub record Header : Type 0 where
  pub variables : ℕ
  pub count : ℕ
  pub top : ℕ

-- the tokens behind one that is expected
abbrev pub behind : List ℕ → List (List ℕ) → Option (List (List ℕ))
behind word [] = none
behind word (t ∷ ts) = cond (same t word) (some ts) none

unfoldable pub numbers : List (List ℕ) → Option (List ℕ)
numbers [] = some []
numbers (t ∷ ts) = then (number t) λ n. then (numbers ts) λ ns. some (n ∷ ns)

-- three numbers, no fewer and no more
abbrev pub header_by : List ℕ → Option Header
header_by [] = none
header_by (v ∷ []) = none
header_by (v ∷ m ∷ []) = none
header_by (v ∷ m ∷ t ∷ []) = some (record { variables = v; count = m; top = t })
header_by (v ∷ m ∷ t ∷ n ∷ ns) = none

abbrev pub header : List (List ℕ) → Option Header
header l = then (behind (bytes "p") l) λ l. then (behind (bytes "wcnf") l) λ l. then (numbers l) header_by

-- as many clauses as it says, and no variable above its number
abbrev pub told : Header → List Clause → Option Formula
told g cs = cond (eqb (length cs) g.count && leb (largest cs) g.variables) (some (record { variables = g.variables; clauses = cs })) none

abbrev pub before_of : List (List (List ℕ)) → Option Formula
before_of [] = none
before_of (l ∷ ls) = then (header l) λ g. then (clauses_of (start_before g.top) ls) λ cs. told g cs

abbrev pub formula_of : Edition → List (List (List ℕ)) → Option Formula
formula_of Since2022 ls = since_of ls
formula_of Before2022 ls = before_of ls

-- what a text of an edition says
unfoldable pub read_wcnf : Edition → List ℕ → Option Formula
read_wcnf edition text = formula_of edition (telling text)
