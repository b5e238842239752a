-- The dual-rail encoding: the weighted clauses of a hall, and the plan that a setting of their variables is. 001, section 5.1;
-- 02, request 4.
--
-- In order: the variable of an entry; a rule in those variables; the three kinds of clauses, and all of them; the sum of the costs and
-- how many are above 0; the plan of a setting; what it means that clauses encode a hall. Variables are numbered from 0 here.
-- Definitions only.
use Rattle.std.specs.Prelude.{◌≡◌, Bool, true, false, List, [], ◌∷◌, ◌++◌, map, ℕ, zero, suc, ◌+◌, length}
use Rattle.hall.specs.Hall.{Entry, at1, at0, Rule, Hall, Plan, leave_out}
use Rattle.hall.specs.Order.{held_entries, sum_of}
use Rattle.hall.specs.Settings.{Setting, Satisfies}
use Rattle.rails.specs.Weighted.{Clause, hard, soft, broken, Allows}

-- "device i becomes variables 2i-1 (held at 1) and 2i (held at 0)"; numbered from 0, device v becomes 2v and 2v + 1
unfoldable pub variable : Entry → ℕ
variable (at1 v) = v + v
variable (at0 v) = v + v + 1

-- "the rules in those variables", "entries as written": 001, definition 2, "replacing all occurrences of the literal x_i by px_i
-- and literal ¬x_i by nx_i"
abbrev pub in_variables : Rule → Rule
in_variables r = map (λ (e : Entry). at1 (variable e)) r

-- the negation of an entry's variable
abbrev pub denied : Entry → Entry
denied e = at0 (variable e)

-- "per device, that not both are true"
abbrev pub not_both : (device : ℕ) → Rule
not_both v = denied (at1 v) ∷ denied (at0 v) ∷ []

-- "soft clauses deny each variable at the device's cost. A cost of 0 gives no soft clause"
abbrev pub denials : (cost device : ℕ) → List Clause
denials zero v = []
denials (suc c) v = soft (suc c) (denied (at1 v) ∷ []) ∷ soft (suc c) (denied (at0 v) ∷ []) ∷ []

-- device by device, where the first cost is device v's
unfoldable pub pairs_from : ℕ → List ℕ → List Clause
pairs_from v [] = []
pairs_from v (c ∷ cs) = hard (not_both v) ∷ pairs_from (suc v) cs

unfoldable pub denials_from : ℕ → List ℕ → List Clause
denials_from v [] = []
denials_from v (c ∷ cs) = denials c v ++ denials_from (suc v) cs

abbrev pub rule_clauses : List Rule → List Clause
rule_clauses rs = map (λ (r : Rule). hard (in_variables r)) rs

-- "clauses stand in the order named, variables and rules rising"
abbrev pub encoded : List Rule → List ℕ → List Clause
encoded rs cs = rule_clauses rs ++ (pairs_from 0 cs ++ denials_from 0 cs)

-- "a rule met by every plan is left out"
unfoldable pub clauses : Hall → List Clause
clauses h = encoded (leave_out h.rules) h.costs

-- the sum of all costs, and the number of those above 0: "top is twice the sum of the costs plus 1; the number of clauses counts
-- those written"
unfoldable pub total : List ℕ → ℕ
total [] = 0
total (c ∷ cs) = c + total cs

abbrev pub if_charged : ℕ → ℕ → ℕ
if_charged zero k = k
if_charged (suc c) k = suc k

unfoldable pub charged : List ℕ → ℕ
charged [] = 0
charged (c ∷ cs) = if_charged c (charged cs)

-- two for each device
abbrev pub variables : Hall → ℕ
variables h = length h.costs + length h.costs

-- the mark of a device from its two variables: 0 free, 1 held at 1, 2 held at 0 (both are true in no setting that meets the hard
-- clauses)
abbrev pub mark_of : (at1 at0 : Bool) → ℕ
mark_of false false = 0
mark_of true b = 1
mark_of false true = 2

-- 001, section 5.1: "px_i and nx_i are both negative iff x_i is unassigned"
unfoldable pub plan_of : Setting → Plan
plan_of [] = []
plan_of (a ∷ []) = []
plan_of (a ∷ b ∷ s) = mark_of a b ∷ plan_of s

-- "each setting that meets the hard clauses is a plan meeting the sheet, the soft weights it breaks add up to its cost"
pub record IsPlan (h : Hall) (cs : List Clause) (s : Setting) : Type 0 where
  pub sheet : Satisfies h (plan_of s)
  pub cost : broken s cs ≡ sum_of h.costs (held_entries (plan_of s))

-- "each such plan comes from exactly one setting"
pub record FromOne (h : Hall) (cs : List Clause) (p : Plan) : Type 0 where
  pub setting : Setting
  pub allowed : Allows (variables h) cs setting
  pub plan : plan_of setting ≡ p
  pub only : (s : Setting) → Allows (variables h) cs s → plan_of s ≡ p → s ≡ setting

-- the claim of the request, on clauses
pub record Encodes (h : Hall) (cs : List Clause) : Type 0 where
  pub sound : (s : Setting) → Allows (variables h) cs s → IsPlan h cs s
  pub each : (p : Plan) → Satisfies h p → FromOne h cs p
