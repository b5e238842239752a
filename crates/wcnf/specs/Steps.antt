-- What the functions below `write` give: the totals of the costs. Definitions only.
use Rattle.std.specs.Prelude.{◌≡◌, List, ℕ, ◌≤◌}
use Rattle.rails.specs.Rails.{total, charged}

-- the sum of the costs, and how many are above 0; neither is large
pub record Totalled (costs : List ℕ) (sum number : ℕ) : Type 0 where
  pub all : sum ≡ total costs
  pub above : number ≡ charged costs
  pub small : sum ≤ 200000000000
  pub few : number ≤ 200
