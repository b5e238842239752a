-- The bound on the nodes opened, and the halls on which it is reached. 01, "The walk", and demand 3.
--
-- In order: k, d and the power sum; the equality case; what demand 3 says of a count. Definitions only.
use Rattle.std.specs.Prelude.{◌≡◌, Bool, true, not, ◌&&◌, List, [], ◌∷◌, ◌++◌, ℕ, zero, suc, ◌+◌, ◌^◌, ◌≤◌, min, max, length, replicate, eqb}
use Rattle.hall.specs.Hall.{Entry, device, Rule, Hall}
use Rattle.lists.specs.Lists.{Each}

-- "The widest rule's width is k, 0 where there are no rules"; 02, request 3: rules that name both positions "still count in k and m"
unfoldable pub widest : List Rule → ℕ
widest [] = 0
widest (r ∷ rs) = max (length r) (widest rs)

-- "d is the smaller of n and m"
abbrev pub depth : Hall → ℕ
depth h = min (length h.costs) (length h.rules)

-- 1 + k + ... + k^d
unfoldable pub power_sum : ℕ → ℕ → ℕ
power_sum k zero = 1
power_sum k (suc d) = power_sum k d + k ^ suc d

-- the bound of a hall
abbrev pub bound_of : Hall → ℕ
bound_of h = power_sum (widest h.rules) (depth h)

-- all entries of the rules, as written
unfoldable pub entries : List Rule → List Entry
entries [] = []
entries (r ∷ rs) = r ++ entries rs

unfoldable pub absent : ℕ → List Entry → Bool
absent v [] = true
absent v (e ∷ es) = not (eqb (device e) v) && absent v es

-- no device is written twice
unfoldable pub once : List Entry → Bool
once [] = true
once (e ∷ es) = absent (device e) es && once es

-- demand 3, the equality case: "no device is written twice in the rules, all rules are equally long and all costs are equal"; each
-- rule is as wide as the widest. So no rule of it names both positions of a device (`once_one_way` of proofs/Rules)
pub record EqualityCase (h : Hall) : Type 0 where
  pub apart : once (entries h.rules) ≡ true
  pub wide : Each (λ r. length r ≡ widest h.rules) h.rules
  pub cost : ℕ
  pub level : h.costs ≡ replicate (length h.costs) cost

-- demand 3: "at most 1 + k + ... + k^d .., equal to it where" the equality case holds
pub record Bounded (h : Hall) (opened : ℕ) : Type 0 where
  pub most : opened ≤ bound_of h
  pub equal : EqualityCase h → opened ≡ bound_of h
