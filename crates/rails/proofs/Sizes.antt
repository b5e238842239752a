-- How many clauses a hall has, what they weigh and which variables they name: what the header of a text says, and what reading
-- it back asks.
--
-- In order: all soft weights are twice the sum of the costs (`top_twice`); the number of clauses (`clause_number`); each soft
-- weight is at least 1 and no more than all of them (`soft_weights_fit`); each clause names variables of the hall only
-- (`variables_named`), and where there is a device the last variable is named (`largest_named`). Assumes nothing.
use mathlib.Core.Path.{◌≡◌, refl, sym, ◌∙◌, ap}
use mathlib.Core.List.{List, [], ◌∷◌, ◌++◌, append_assoc}
use Prim.Native.Nat.{ℕ, zero, suc, ◌+◌, ◌≤◌, ◌<◌}
use native.Mathlib.Omega.{arith}
use lib.ListN.{length, length-append, length-map}
use Rattle.lists.specs.Lists.{Each}
use Rattle.hall.specs.Hall.{Entry, at1, at0, device, Rule, Hall, leave_out}
use Rattle.hall.specs.Ranges.{RuleInRange, HallInRange}
use Rattle.lists.proofs.Each.{each_append}
use Rattle.hall.proofs.LeftOut.{without_in_range}
use Rattle.rails.specs.Weighted.{Clause, hard, soft, literals, soft_weights}
use Rattle.rails.specs.Rails.{variable, in_variables, not_both, pairs_from, denials_from, rule_clauses, encoded, clauses, total, charged, variables}
use Rattle.rails.proofs.AnyClauses.{weights_append}

-- ── the weights ──
rules_weigh : (rs : List Rule) → soft_weights (rule_clauses rs) ≡ 0
unfolding soft_weights
rules_weigh [] = refl
rules_weigh (r ∷ rs) = rules_weigh rs

pairs_weigh : (v : ℕ) (cs : List ℕ) → soft_weights (pairs_from v cs) ≡ 0
unfolding soft_weights pairs_from
pairs_weigh v [] = refl
pairs_weigh v (c ∷ cs) = pairs_weigh (suc v) cs

denials_weigh : (v : ℕ) (cs : List ℕ) → soft_weights (denials_from v cs) ≡ total cs + total cs
unfolding soft_weights denials_from total
denials_weigh v [] = refl
denials_weigh v (zero ∷ cs) = omega (arith, denials_weigh (suc v) cs)
denials_weigh v (suc c ∷ cs) = omega (arith, denials_weigh (suc v) cs)

-- all soft weights together are twice the sum of the costs: the top weight, less 1
pub top_twice : (rs : List Rule) (cs : List ℕ) → soft_weights (encoded rs cs) ≡ total cs + total cs
top_twice rs cs =
    let pairs = pairs_from 0 cs in
    let denials = denials_from 0 cs in
    omega (
      arith,
      weights_append (rule_clauses rs) (pairs ++ denials),
      weights_append pairs denials,
      rules_weigh rs,
      pairs_weigh 0 cs,
      denials_weigh 0 cs,
    )

-- ── the number of clauses ──
pairs_number : (v : ℕ) (cs : List ℕ) → length (pairs_from v cs) ≡ length cs
unfolding pairs_from
pairs_number v [] = refl
pairs_number v (c ∷ cs) = ap suc (pairs_number (suc v) cs)

denials_number : (v : ℕ) (cs : List ℕ) → length (denials_from v cs) ≡ charged cs + charged cs
unfolding denials_from charged
denials_number v [] = refl
denials_number v (zero ∷ cs) = denials_number (suc v) cs
denials_number v (suc c ∷ cs) = omega (arith, denials_number (suc v) cs)

-- a clause for each rule, one for each device, and two for each device with a cost above 0
pub clause_number : (rs : List Rule) (cs : List ℕ) → length (encoded rs cs) ≡ length rs + (length cs + (charged cs + charged cs))
clause_number rs cs =
    let pairs = pairs_from 0 cs in
    let denials = denials_from 0 cs in
    omega (
      arith,
      length-append (rule_clauses rs) (pairs ++ denials),
      length-append pairs denials,
      length-map rs (λ (r : Rule). hard (in_variables r)),
      pairs_number 0 cs,
      denials_number 0 cs,
    )

-- ── what each clause has ──
-- of all clauses, from each kind
each_clause : (P : Clause → Type 0) (h : Hall) → Each P (rule_clauses (leave_out h.rules)) → Each P (pairs_from 0 h.costs) → Each P (denials_from 0 h.costs)
    → Each P (clauses h)
unfolding clauses
each_clause P h rules pairs denials = each_append P (rule_clauses (leave_out h.rules)) _ rules (each_append P (pairs_from 0 h.costs) _ pairs denials)

-- of a soft clause: its weight is at least 1 and at most so much
abbrev pub WeightTo : (most : ℕ) → Clause → Type 0
WeightTo most (hard c) = Unit {0}
WeightTo most (soft w c) = (1 ≤ w) × (w ≤ most)

module _ (most : ℕ) where
  rules_fit : (rs : List Rule) → Each (WeightTo most) (rule_clauses rs)
  rules_fit [] = tt
  rules_fit (r ∷ rs) = (tt, rules_fit rs)

  pairs_fit : (v : ℕ) (cs : List ℕ) → Each (WeightTo most) (pairs_from v cs)
  unfolding pairs_from
  pairs_fit v [] = tt
  pairs_fit v (c ∷ cs) = (tt, pairs_fit (suc v) cs)

  denials_fit : (v : ℕ) (cs : List ℕ) → total cs ≤ most → Each (WeightTo most) (denials_from v cs)
  unfolding denials_from total
  denials_fit v [] l = tt
  denials_fit v (zero ∷ cs) l = denials_fit (suc v) cs (omega arith)
  denials_fit v (suc c ∷ cs) l = ((omega arith, omega arith), ((omega arith, omega arith), denials_fit (suc v) cs (omega arith)))

pub soft_weights_fit : (h : Hall) → Each (WeightTo (soft_weights (clauses h))) (clauses h)
unfolding clauses
soft_weights_fit h =
    let most = soft_weights (clauses h) in
    each_clause (WeightTo most) h (rules_fit most (leave_out h.rules)) (pairs_fit most 0 h.costs) (denials_fit most 0 h.costs (omega (arith, top_twice (leave_out h.rules) h.costs)))

-- a clause names variables below this one alone
abbrev pub NamesBelow : ℕ → Clause → Type 0
NamesBelow n c = Each (λ e. device e < n) (literals c)

variable_below : (n : ℕ) (e : Entry) → device e < n → variable e < n + n
unfolding variable
variable_below n (at1 v) l = omega arith
variable_below n (at0 v) l = omega arith

entries_named : (n : ℕ) (r : Rule) → Each (λ e. device e < n) r → Each (λ e. device e < n + n) (in_variables r)
entries_named n [] a = tt
entries_named n (e ∷ es) a = (variable_below n e a.0, entries_named n es a.1)

rules_named : (n : ℕ) (rs : List Rule) → Each (RuleInRange n) rs → Each (NamesBelow (n + n)) (rule_clauses rs)
rules_named n [] a = tt
rules_named n (r ∷ rs) a = (entries_named n r a.0.named, rules_named n rs a.1)

pairs_named : (n v : ℕ) (cs : List ℕ) → v + length cs ≤ n → Each (NamesBelow (n + n)) (pairs_from v cs)
unfolding pairs_from
pairs_named n v [] l = tt
pairs_named n v (c ∷ cs) l = ((variable_below n (at1 v) (omega arith), (variable_below n (at0 v) (omega arith), tt)), pairs_named n (suc v) cs (omega arith))

denials_named : (n v : ℕ) (cs : List ℕ) → v + length cs ≤ n → Each (NamesBelow (n + n)) (denials_from v cs)
unfolding denials_from
denials_named n v [] l = tt
denials_named n v (zero ∷ cs) l = denials_named n (suc v) cs (omega arith)
denials_named n v (suc c ∷ cs) l =
    ((variable_below n (at1 v) (omega arith), tt), ((variable_below n (at0 v) (omega arith), tt), denials_named n (suc v) cs (omega arith)))

pub variables_named : (h : Hall) → HallInRange h → Each (NamesBelow (variables h)) (clauses h)
variables_named h ranges =
    let n = length h.costs in
    each_clause (NamesBelow (n + n)) h (rules_named n (leave_out h.rules) (without_in_range h ranges).good) (pairs_named n 0 h.costs (omega arith))
    (denials_named n 0 h.costs (omega arith))

-- ── the last variable ──
-- the pair of the last device stands last among the pairs
pairs_end : (v k : ℕ) (cs : List ℕ) → suc k ≡ length cs → (before : List Clause) × (pairs_from v cs ≡ before ++ (hard (not_both (v + k)) ∷ []))
unfolding pairs_from
pairs_end v k [] l = absurd (omega arith)
pairs_end v zero (c ∷ []) l = let e : v + 0 ≡ v = omega arith in ([], rw e refl)
pairs_end v zero (c ∷ d ∷ cs) l = absurd (omega arith)
pairs_end v (suc k) (c ∷ cs) l =
    let e : v + suc k ≡ suc v + k = omega arith in
    let f = pairs_end (suc v) k cs (omega arith) in
    (hard (not_both v) ∷ f.0, rw e (ap (λ (l : List Clause). hard (not_both v) ∷ l) f.1))

-- where there is a device, the clause that the two variables of the last one are not both true is among the clauses
pub largest_named : (h : Hall) (k : ℕ) → suc k ≡ length h.costs → (before : List Clause) × (after : List Clause) × (clauses h ≡ before ++ (hard (not_both k) ∷ after))
unfolding clauses
largest_named h k l =
    let rules = rule_clauses (leave_out h.rules) in
    let denials = denials_from 0 h.costs in
    let e : 0 + k ≡ k = omega arith in
    let f = pairs_end 0 k h.costs l in
    let last = hard (not_both k) in
    let pairs : pairs_from 0 h.costs ≡ f.0 ++ (last ∷ []) = f.1 ∙ rw e refl in (
      rules ++ f.0,
      denials,
      ap (λ (p : List Clause). rules ++ (p ++ denials)) pairs
          ∙ ap (λ (p : List Clause). rules ++ p) (append_assoc f.0 (last ∷ []) denials)
          ∙ sym (append_assoc rules f.0 (last ∷ denials)),
    )
