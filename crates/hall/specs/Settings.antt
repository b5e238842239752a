-- What meeting a sheet means: document 000, definition 2. 02, request 3: "Document 000, definition 2, asks that the rules hold for
-- every setting of the free devices".
--
-- In order: a setting of all devices; an entry, a rule and all rules true in it; a setting that agrees with a plan; a plan that
-- satisfies a hall. That this is the walk's test is a theorem (proofs/Satisfied). Definitions only.
use Rattle.std.specs.Prelude.{◌≡◌, Bool, true, false, not, ◌&&◌, ◌||◌, List, [], ◌∷◌, length, get_or}
use Rattle.hall.specs.Hall.{Entry, at1, at0, Rule, Hall, Plan, PlanOf, holds}

-- the position of each device, device 1 first: true for position 1, false for position 0
abbrev pub Setting : Type 0
Setting = List Bool

-- a full setting: one position for each device of the hall
abbrev pub SettingOf : Hall → Setting → Type 0
SettingOf h s = length s ≡ length h.costs

-- 01: "An entry +v says that device v is kept at position 1, -v that it is kept at position 0." (of a device that is not set,
-- neither is true)
unfoldable pub is_true : Setting → Entry → Bool
is_true s (at1 v) = get_or s v false
is_true s (at0 v) = not (get_or s v true)

-- a rule is true where some entry of it is
unfoldable pub rule_true : Setting → Rule → Bool
rule_true s [] = false
rule_true s (e ∷ es) = is_true s e || rule_true s es

unfoldable pub all_true : Setting → List Rule → Bool
all_true s [] = true
all_true s (r ∷ rs) = rule_true s r && all_true s rs

-- the setting agrees with the plan on the devices held; the other devices are set in any way
abbrev pub Agrees : Plan → Setting → Type 0
Agrees p s = (e : Entry) → holds p e ≡ true → is_true s e ≡ true

-- 000, definition 2: "dom(σ) ⊆ free(ϕ), and such that for every valuation ρ ∈ (free(ϕ) \ dom(σ)) → U, (M, σ ∪ ρ) is a satisfying
-- assignment for ϕ". σ is the plan, ϕ the rules, and σ ∪ ρ a full setting that agrees with the plan
pub record Satisfies (h : Hall) (p : Plan) : Type 0 where
  pub plan : PlanOf h p
  pub always : (s : Setting) → SettingOf h s → Agrees p s → all_true s h.rules ≡ true
