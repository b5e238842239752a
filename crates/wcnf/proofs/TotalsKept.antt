-- The totals of the costs: the library's sum and count are those of the encoding (`sum_is`, `count_is`), and neither is large
-- (`total_most`, `charged_most`), so that they are the totals of a hall (`totals`). Assumes nothing.
use mathlib.Core.Path.{◌≡◌, refl, sym, ◌∙◌}
use mathlib.Core.Bool.{cond}
use mathlib.Core.List.{List, [], ◌∷◌}
use Prim.Native.Nat.{ℕ, zero, suc, ◌+◌, ◌*◌, ◌≤◌}
use native.Mathlib.Omega.{arith}
use lib.ListN.{length}
use lib.Dec.{ltb}
use borrow.Author.Tests.{lt-ltb}
use Rattle.std.specs.List.{sum, count_by}
use Rattle.std.proofs.lemmas.List.Recursion.{is_sum_by, is_count_by}
use Rattle.lists.specs.Lists.{Each}
use Rattle.needed.specs.Loaded.{Loaded}
use Rattle.rails.specs.Rails.{total, charged}
use Rattle.wcnf.specs.Steps.{Totalled}

sum_is : (cs : List ℕ) → total cs ≡ sum cs
unfolding total
sum_is cs = is_sum_by total (λ c. c) refl (λ c cs. refl) cs

count_is : (cs : List ℕ) → charged cs ≡ count_by (λ c. ltb 0 c) cs
unfolding charged
count_is cs = is_count_by charged (λ c. ltb 0 c) refl one cs
  where
    one : (c : ℕ) (cs : List ℕ) → charged (c ∷ cs) ≡ cond (ltb 0 c) (1 + charged cs) (charged cs)
    one zero cs = refl
    one (suc c) cs = rw (lt-ltb 0 (suc c) (omega arith)) (omega arith)

pub total_most : (cs : List ℕ) → Each (λ c. c ≤ 1000000000) cs → total cs ≤ 1000000000 * length cs
unfolding total
total_most [] a = omega arith
total_most (c ∷ cs) a = let b = a.0 in omega (arith, total_most cs a.1)

pub charged_most : (cs : List ℕ) → charged cs ≤ length cs
unfolding charged
charged_most [] = omega arith
charged_most (zero ∷ cs) = omega (arith, charged_most cs)
charged_most (suc c ∷ cs) = omega (arith, charged_most cs)

module _ {costs codes starts : List ℕ} {m : ℕ} (h : Loaded costs codes starts m) {all above : ℕ} where
  pub totals : all ≡ sum costs → above ≡ count_by (λ c. ltb 0 c) costs → Totalled costs all above
  totals e f = record {
    all = e ∙ sym (sum_is costs);
    above = f ∙ sym (count_is costs);
    small = omega (arith, h.devices, sum_is costs, total_most costs h.cheap);
    few = omega (arith, h.devices, count_is costs, charged_most costs);
  }
