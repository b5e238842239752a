-- Cost, held number, which of two plans is better, and the least plan. 01, "Words and deciding documents".
--
-- In order: what a plan holds, one entry for each held device; cost and held number; the order; a plan that meets the sheet by the
-- walk's test; the least plan and no plan, for whatever meeting means. Definitions only.
use Rattle.std.specs.Prelude.{◌≡◌, Bool, true, false, ◌&&◌, ◌||◌, List, [], ◌∷◌, ℕ, zero, suc, ◌+◌, get_or, eqb, ltb}
use Rattle.hall.specs.Hall.{Entry, at1, at0, device, Hall, Plan, PlanOf, meets_all}

-- a number where the mark holds its device, nothing where the device is free
unfoldable pub if_held : ℕ → ℕ → ℕ
if_held c zero = 0
if_held c (suc x) = c

-- 01: "The cost of a plan is the sum of the costs of its held devices."
unfoldable pub cost_of : List ℕ → Plan → ℕ
cost_of [] p = 0
cost_of (c ∷ cs) [] = 0
cost_of (c ∷ cs) (x ∷ p) = if_held c x + cost_of cs p

-- the number of devices held
unfoldable pub held_of : Plan → ℕ
held_of [] = 0
held_of (x ∷ p) = if_held 1 x + held_of p

-- the same two once more, over the list of what is held: 01, "What leastplan prints": "an entry for each held device in
-- rising order". `held_by x v` puts device v, of mark x, in front
abbrev pub held_by : ℕ → ℕ → List Entry → List Entry
held_by zero v es = es
held_by (suc zero) v es = at1 v ∷ es
held_by (suc (suc zero)) v es = at0 v ∷ es
held_by (suc (suc (suc x))) v es = es

-- the held devices of a plan whose first mark is device v's
unfoldable pub held_from : ℕ → Plan → List Entry
held_from v [] = []
held_from v (x ∷ p) = held_by x v (held_from (suc v) p)

abbrev pub held_entries : Plan → List Entry
held_entries p = held_from 0 p

-- the sum of the costs of the entries' devices
unfoldable pub sum_of : List ℕ → List Entry → ℕ
sum_of cs [] = 0
sum_of cs (e ∷ es) = get_or cs (device e) 0 + sum_of cs es

-- the order of a dictionary, over lists of numbers
unfoldable pub less : List ℕ → List ℕ → Bool
less a [] = false
less [] (y ∷ b) = true
less (x ∷ a) (y ∷ b) = ltb x y || (eqb x y && less a b)

-- 01: "the lower cost; then fewer devices held; then, at the lowest-numbered device where they differ, free comes before held
-- at 1, and held at 1 before held at 0": what decides, the weightiest first, compared as in a dictionary
unfoldable pub rank : List ℕ → Plan → List ℕ
rank cs p = cost_of cs p ∷ held_of p ∷ p

unfoldable pub better : List ℕ → Plan → Plan → Bool
better cs p q = less (rank cs p) (rank cs q)

-- a plan of the hall that meets every rule, by the walk's test
pub record MeetsSheet (h : Hall) (p : Plan) : Type 0 where
  pub plan : PlanOf h p
  pub meets : meets_all p h.rules ≡ true

-- 01: "The least plan is the best of all plans that meet the sheet.", for each meaning of "meet"
pub record LeastOf (Meets : Hall → Plan → Type 0) (h : Hall) (p : Plan) : Type 0 where
  pub sheet : Meets h p
  pub best : (q : Plan) → Meets h q → better h.costs q p ≡ false

-- no plan meets the sheet, for each meaning of "meet"
abbrev pub NoneOf : (Hall → Plan → Type 0) → Hall → Type 0
NoneOf Meets h = (q : Plan) → Meets h q → ⊥

-- both by the walk's test
abbrev pub LeastPlan : Hall → Plan → Type 0
LeastPlan = LeastOf MeetsSheet

abbrev pub NoPlan : Hall → Type 0
NoPlan = NoneOf MeetsSheet
