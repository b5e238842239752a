-- What a MaxSAT solver is asked: weighted clauses over variables that are true or false. 01, "Words and deciding documents":
-- "Document 001, section 3, calls it a clause"; 001, section 5.3; 02, request 4.
--
-- A clause is a rule over variables in the place of devices: `at1 v` is the variable v, `at0 v` its negation. Variables are
-- numbered from 0 here, so that variable 1 of a text is variable 0. A setting gives each variable a value, as it gives each
-- device a position, and `rule_true` says whether it meets a clause. In order: hard and soft clauses and their literals; a
-- setting that meets the hard clauses; the weights that it breaks; the least of these, or none; the top weight, and what is
-- broken where a hard clause weighs that. Definitions only.
use Rattle.std.specs.Prelude.{◌≡◌, Bool, true, cond, ◌&&◌, List, [], ◌∷◌, ℕ, ◌+◌, ◌≤◌, length}
use Rattle.hall.specs.Hall.{Rule}
use Rattle.hall.specs.Settings.{Setting, rule_true}

-- "hard clauses", and soft ones: "A soft clause starts with its weight."
pub data Clause : Type 0 where
  hard : Rule → Clause
  soft : (weight : ℕ) → Rule → Clause

-- the literals of a clause
abbrev pub literals : Clause → Rule
literals (hard c) = c
literals (soft w c) = c

-- "each setting that meets the hard clauses"
unfoldable pub meets_hard : Setting → List Clause → Bool
meets_hard s [] = true
meets_hard s (hard c ∷ cs) = rule_true s c && meets_hard s cs
meets_hard s (soft w c ∷ cs) = meets_hard s cs

-- "the soft weights it breaks", added up
unfoldable pub broken : Setting → List Clause → ℕ
broken s [] = 0
broken s (hard c ∷ cs) = broken s cs
broken s (soft w c ∷ cs) = cond (rule_true s c) 0 w + broken s cs

-- a setting of so many variables that meets the hard clauses
pub record Allows (variables : ℕ) (cs : List Clause) (s : Setting) : Type 0 where
  pub size : length s ≡ variables
  pub meets : meets_hard s cs ≡ true

-- what a solver is asked for: the least weight that such a setting breaks
pub record LeastBroken (variables : ℕ) (cs : List Clause) (weight : ℕ) : Type 0 where
  pub setting : Setting
  pub allowed : Allows variables cs setting
  pub breaks : broken setting cs ≡ weight
  pub least : (s : Setting) → Allows variables cs s → weight ≤ broken s cs

-- or that there is none
abbrev pub NoSetting : ℕ → List Clause → Type 0
NoSetting variables cs = (s : Setting) → Allows variables cs s → ⊥

-- "the top weight, the sum of soft weights plus 1"
unfoldable pub soft_weights : List Clause → ℕ
soft_weights [] = 0
soft_weights (hard c ∷ cs) = soft_weights cs
soft_weights (soft w c ∷ cs) = w + soft_weights cs

abbrev pub top : List Clause → ℕ
top cs = soft_weights cs + 1

-- before 2022 a hard clause is one of the top weight: all weights that a setting breaks, where a hard clause weighs so much
unfoldable pub broken_at : (hard_weight : ℕ) → Setting → List Clause → ℕ
broken_at t s [] = 0
broken_at t s (hard c ∷ cs) = cond (rule_true s c) 0 t + broken_at t s cs
broken_at t s (soft w c ∷ cs) = cond (rule_true s c) 0 w + broken_at t s cs
