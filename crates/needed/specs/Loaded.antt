-- What holds of arrays in which a hall lies that is walked, or written out: it is within the table's ranges, and the rules that every plan
-- meets are left out.
--
-- In order: the claim; that it has at most one proof, which the ghost field of a value that holds it asks for.
use Rattle.std.specs.Prelude.{◌≡◌, List, [], ◌∷◌, ℕ, ◌≤◌, length, get_or}
use Rattle.std.specs.Coded.{×_prop, Unit-prop, le_prop}
use Rattle.std.proofs.Props.{props}
use Rattle.lists.specs.Lists.{Each}
use Rattle.hall.specs.Hall.{OneWay}
use Rattle.sheet.specs.Coded.{rules_of, Laid}

-- a hall of m rules lies in the arrays, its codes in 16,384 places; "devices | 0 to 200", "a cost | 0 to 1,000,000,000",
-- "rules | 0 to 2,000"; none of the rules names both positions of a device (02, request 3: those that do are left out)
pub record Loaded (costs codes starts : List ℕ) (m : ℕ) : Type 0 where
  pub laid : Laid (length costs) codes starts m
  pub short : get_or starts m 0 ≤ 16384
  pub devices : length costs ≤ 200
  pub cheap : Each (λ c. c ≤ 1000000000) costs
  pub count : m ≤ 2000
  pub one_way : OneWay (rules_of codes starts 0 m)

Each-prop : {A : Type 0} (P : A → Type 0) → ((a : A) → IsProp (P a)) → (l : List A) → IsProp (Each P l)
Each-prop P each [] = Unit-prop
Each-prop P each (a ∷ l) = ×_prop (each a) (Each-prop P each l)

pub Loaded-prop : (costs codes starts : List ℕ) (m : ℕ) → IsProp (Loaded costs codes starts m)
Loaded-prop costs codes starts m = Prim.hlevel (props, Each-prop)
