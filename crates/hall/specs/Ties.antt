-- Plans that tie, and their order. 02, request 5: "List all that equal the least one in cost and held number, best first by 01's order,
-- each once and none left out."
--
-- In order: plans equal in cost and held number; those among the plans that a walk opens; plans put in order; the list of a hall; what
-- a walk keeps beside the best so far, node by node; several plans in one room. Definitions only.
use Rattle.std.specs.Prelude.{Bool, true, false, cond, not, ◌&&◌, ◌||◌, List, [], ◌∷◌, ◌++◌, ℕ, eqb}
use Rattle.hall.specs.Hall.{Hall, Plan, meets_all}
use Rattle.hall.specs.Order.{cost_of, held_of, less}
use Rattle.hall.specs.Walk.{Best, none_yet, so_far, keep, walk_hall}

-- "equal the least one in cost and held number"
unfoldable pub ties : List ℕ → Plan → Plan → Bool
ties cs p q = eqb (cost_of cs p) (cost_of cs q) && eqb (held_of p) (held_of q)

-- of some plans, those that meet every rule and tie with p
unfoldable pub tying : Hall → Plan → List Plan → List Plan
tying h p [] = []
tying h p (q ∷ qs) = cond (meets_all q h.rules && ties h.costs q p) (q ∷ tying h p qs) (tying h p qs)

-- ── in order ──
-- a plan put among plans that are in order: in front of q, behind it, or nowhere, because it is q
unfoldable pub place_by : (before behind : Bool) → Plan → Plan → (rest placed : List Plan) → List Plan
place_by true behind p q rest placed = p ∷ q ∷ rest
place_by false true p q rest placed = q ∷ placed
place_by false false p q rest placed = q ∷ rest

-- "best first by 01's order": of two plans that tie the marks decide, "at the lowest-numbered device where they differ"
unfoldable pub place : Plan → List Plan → List Plan
place p [] = p ∷ []
place p (q ∷ qs) = place_by (less p q) (less q p) p q qs (place p qs)

-- "best first .., each once"
unfoldable pub in_order : List Plan → List Plan
in_order [] = []
in_order (p ∷ ps) = place p (in_order ps)

-- the plans that tie with p, as the walk of the hall opens them, in order
unfoldable pub equal_to : Hall → Plan → List Plan
equal_to h p = in_order (tying h p (walk_hall h).plans)

-- ── what a walk keeps ──
-- a plan stands among others: neither comes before the other
unfoldable pub stands_in : Plan → List Plan → Bool
stands_in p [] = false
stands_in p (q ∷ qs) = not (less p q || less q p) || stands_in p qs

-- p costs less than q, or the same and holds fewer devices
unfoldable pub lower : List ℕ → Plan → Plan → Bool
lower cs p q = less (cost_of cs p ∷ held_of p ∷ []) (cost_of cs q ∷ held_of q ∷ [])

-- the plans that tie with the best so far, after a plan that meets every rule: it alone where it is lower than the best so far; with it,
-- once, where it ties
unfoldable pub noted_by : (is_lower is_equal : Bool) → Plan → List Plan → List Plan
noted_by true is_equal p ts = p ∷ []
noted_by false true p ts = cond (stands_in p ts) ts (ts ++ (p ∷ []))
noted_by false false p ts = ts

unfoldable pub noted : List ℕ → Plan → Best → List Plan → List Plan
noted cs p none_yet ts = p ∷ []
noted cs p (so_far b) ts = noted_by (lower cs p b) (ties cs p b) p ts

-- the best so far and the plans that tie with it, each once, in the order in which they were opened
pub record Kept : Type 0 where
  pub best : Best
  pub ties : List Plan

-- after one more node; the flag says that its plan meets every rule
unfoldable pub keep_by : Bool → List ℕ → Kept → Plan → Kept
keep_by true cs k p = record { best = so_far (keep cs p k.best); ties = noted cs p k.best k.ties }
keep_by false cs k p = k

-- after more nodes
unfoldable pub keep_all : Hall → Kept → List Plan → Kept
keep_all h k [] = k
keep_all h k (p ∷ ps) = keep_all h (keep_by (meets_all p h.rules) h.costs k p) ps

-- before the first node
abbrev pub nothing_kept : Kept
nothing_kept = record { best = none_yet; ties = [] }

-- ── in a room ──
-- "each plan written into the part behind the last one"
unfoldable pub joined : List Plan → List ℕ
joined [] = []
joined (p ∷ ps) = p ++ joined ps
