-- Whether a plan stands in a run: a plan that is equal to it is looked for among the plans of the run (`stands_any`); a plan of no marks
-- stands in none (`stands_none`). Assumes nothing.
use mathlib.Core.Path.{◌≡◌, refl}
use mathlib.Core.Bool.{false}
use mathlib.Core.List.{List, [], ◌∷◌}
use Prim.Native.Nat.{ℕ}
use lib.ListN.{length}
use Rattle.std.specs.Prelude.{nat_eq}
use Rattle.std.specs.List.{list_any}
use Rattle.std.specs.Cmp.Lexicographic.{pointwise}
use Rattle.hall.specs.Hall.{Plan}
use Rattle.hall.specs.Ties.{stands_in}
use Rattle.plans.specs.Runs.{plans_in}
use Rattle.plans.proofs.Marks.{same_is}
use Rattle.plans.proofs.Runs.{plans_none}

pub stands_none : (p : Plan) (run : List ℕ) → length p ≡ 0 → false ≡ stands_in p (plans_in (length p) run)
unfolding stands_in
stands_none p run e = rw (plans_none (length p) run e) refl

pub stands_any : (p : Plan) (ps : List Plan) → list_any (λ q. pointwise nat_eq q p) ps ≡ stands_in p ps
unfolding stands_in
stands_any p [] = refl
stands_any p (q ∷ qs) = rw (same_is p q, stands_any p qs) refl
