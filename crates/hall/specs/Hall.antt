-- Devices, entries, rules and plans; holding a device and meeting a rule. 01, "Words and deciding documents"; 02, request 3.
--
-- In order: entries and rules; a hall; plans and the plans of a hall; holding; rules that name both positions of a device; meeting
-- a rule and all rules, by the test that the walk uses; the first rule not met; the rules that are left to test. Not here: what
-- meeting means (Settings), cost and order (Order), the table's ranges (Ranges). Definitions only.
use Rattle.std.specs.Prelude.{◌≡◌, Bool, true, false, cond, ◌&&◌, ◌||◌, List, [], ◌∷◌, ℕ, ◌≤◌, length, get_or, set, eqb}
use Rattle.lists.specs.Lists.{Each}

-- 01: "An entry +v says that device v is kept at position 1, -v that it is kept at position 0." `at1` keeps a device at
-- position 1, `at0` at position 0; devices are numbered from 0 here, so that entry +v of a sheet is `at1 (v - 1)`
pub data Entry : Type 0 where
  at1 at0 : ℕ → Entry

-- 01: "A rule is a list of entries."
abbrev pub Rule : Type 0
Rule = List Entry

-- a cost for each device, device 1 first, and the rules
pub record Hall : Type 0 where
  pub costs : List ℕ
  pub rules : List Rule

-- 01: "A plan gives each device one of three marks: free, held at 1, held at 0." The marks are the plan room's bytes:
-- 0 free, 1 held at 1, 2 held at 0
abbrev pub Plan : Type 0
Plan = List ℕ

-- a plan of this hall: exactly one mark for each device, each of them 0, 1 or 2
pub record PlanOf (h : Hall) (p : Plan) : Type 0 where
  pub size : length p ≡ length h.costs
  pub marks : (v : ℕ) → get_or p v 0 ≤ 2

abbrev pub device : Entry → ℕ
device (at1 v) = v
device (at0 v) = v

abbrev pub mark : Entry → ℕ
mark (at1 v) = 1
mark (at0 v) = 2

-- the plan holds the entry's device at the entry's position
unfoldable pub holds : Plan → Entry → Bool
holds p e = eqb (get_or p (device e) 0) (mark e)

-- the plan has the entry's device, and it is free
unfoldable pub is_free : Plan → Entry → Bool
is_free p e = eqb (get_or p (device e) 1) 0

-- 01, "The walk", step 3: "the same plan with that device held as the entry says"
unfoldable pub hold : Plan → Entry → Plan
hold p e = set p (device e) (mark e)

-- 01: "one of the rule's entries names a device held at that position"
unfoldable pub holds_one : Plan → Rule → Bool
holds_one p [] = false
holds_one p (e ∷ es) = holds p e || holds_one p es

-- the other entry of the same device
abbrev pub opposite : Entry → Entry
opposite (at1 v) = at0 v
opposite (at0 v) = at1 v

-- an entry stands in a rule
unfoldable pub among : Entry → Rule → Bool
among e [] = false
among e (d ∷ ds) = (eqb (device d) (device e) && eqb (mark d) (mark e)) || among e ds

-- 02, request 3: "a rule holding both entries of one device"
unfoldable pub names_both : Rule → Bool
names_both [] = false
names_both (e ∷ es) = among (opposite e) es || names_both es

-- 01: "A plan meets a rule when one of the rule's entries names a device held at that position"; 02, request 3: "From now on every
-- plan meets such a rule". 01, "The hall sheet": "A rule of width 0 is met by no plan."
unfoldable pub meets_rule : Plan → Rule → Bool
meets_rule p r = names_both r || holds_one p r

-- 01: "It meets the sheet when it meets every rule."
unfoldable pub meets_all : Plan → List Rule → Bool
meets_all p [] = true
meets_all p (r ∷ rs) = meets_rule p r && meets_all p rs

-- 01, "The walk", step 3: "the first rule that is not met" (where every rule is met, the rule without entries)
unfoldable pub first_unmet : Plan → List Rule → Rule
first_unmet p [] = []
first_unmet p (r ∷ rs) = cond (meets_rule p r) (first_unmet p rs) r

-- 02, request 3: "sheets without such rules"
abbrev pub OneWay : List Rule → Type 0
OneWay rs = Each (λ r. names_both r ≡ false) rs

-- the rules that do not name both positions of a device: the others, which every plan meets, are left out
unfoldable pub leave_out : List Rule → List Rule
leave_out [] = []
leave_out (r ∷ rs) = cond (names_both r) (leave_out rs) (r ∷ leave_out rs)

-- the hall without them
abbrev pub without : Hall → Hall
without h = record { costs = h.costs; rules = leave_out h.rules }
