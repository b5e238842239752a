-- `stands_in` meets its contract: the chunks of the run are its plans (Chunks), of which one is equal (Standing). Assumes nothing.
use mathlib.Core.Path.{◌≡◌, ◌∙◌}
use Prim.Native.Nat.{◌<◌}
use native.Mathlib.Omega.{arith}
use borrow.Author.Rules.{rules}
use lib.ListN.{length}
use Rattle.std.proofs.lemmas.Iterator.Search.{any_from_yields_List}
use Rattle.plans.proofs.Chunks.{plans_come}
use Rattle.plans.proofs.Standing.{stands_none, stands_any}
use Rattle.plans.proofs.stands_in.Goals as goal

pub returns-then-not-is_empty : goal.returns-then-not-is_empty
returns-then-not-is_empty c =
    let some : 0 < length c.args.plan.now = grind arith in
    any_from_yields_List _ _ _ _ c.any.ensures.ran (plans_come _ _ some (search rules) (search rules)) (λ x b q k. search rules)
    ∙ stands_any c.args.plan.now _

pub returns-else-not-is_empty : goal.returns-else-not-is_empty
returns-else-not-is_empty c = let none : length c.args.plan.now ≡ 0 = grind arith in search (rules, stands_none)
