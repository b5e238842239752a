-- The contract of `list_plans` leaves no choice: two results that it allows are equal (`lists_text_only`). And 51 is printed only where
-- more than 256 plans tie: the room has bytes for 256 of the largest (`short_many`). Assumes nothing.
use mathlib.Core.Path.{◌≡◌, refl, subst}
use mathlib.Core.Logic.{◌⊎◌, inl, inr}
use mathlib.Core.Bool.{Bool, true, false}
use mathlib.Core.List.{List}
use Prim.Native.Nat.{ℕ, ◌≤◌, ◌<◌}
use native.Mathlib.Nat.{mul-le-mul}
use native.Mathlib.Omega.{arith}
use lib.ListN.{length}
use lib.IntN.{ℤ}
use lib.Dec.{leb}
use borrow.Author.Tests.{leb-true, leb-false}
use Rattle.lists.proofs.Each.{each_of}
use Rattle.hall.specs.Hall.{Plan}
use Rattle.hall.specs.Ties.{joined}
use Rattle.hall.specs.Listing.{short, listing, Lists, SaysShort}
use Rattle.hall.proofs.Listed.{lists}
use Rattle.plans.proofs.Runs.{Sized, joined_length}
use Rattle.printing.proofs.InRoom.{in_room_only}
use Rattle.foreman.specs.Printed.{printed_for}
use Rattle.foreman.specs.Contract.{ListsText}

pub lists_text_only : (text before : List ℕ) (r r' : ℕ) (after after' : List ℕ) → ListsText text before r after → ListsText text before r' after' → (r ≡ r') × (after ≡ after')
lists_text_only text = in_room_only 230000 (printed_for text)

-- so many plans of n marks each need at most 51,200 bytes, unless they are more than 256
long_many : (n : ℕ) (ps : List Plan) → n ≤ 200 → Sized n ps → 51200 < length (joined ps) → 256 < length ps
long_many n ps l s h = go (leb (length ps) 256) refl
  where
    go : (b : Bool) → leb (length ps) 256 ≡ b → 256 < length ps
    go true u = absurd (omega (arith, joined_length n ps s, mul-le-mul (leb-true (length ps) 256 u) l))
    go false u = leb-false (length ps) 256 u

pub short_many : (ws : List ℤ) (place : ℕ) → listing ws 1000000 51200 ≡ short place → (s : SaysShort ws 1000000 51200 place) × (256 < length s.plans)
short_many ws place e = (s, go s.over)
  where
    s : SaysShort ws 1000000 51200 place
    s = subst (Lists ws 1000000 51200) e (lists ws 1000000 51200)

    go : (256 < length s.plans) ⊎ (51200 < length (joined s.plans)) → 256 < length s.plans
    go (inl l) = l
    go (inr l) =
        let h = s.least.hall in
        long_many (length h.costs) s.plans s.least.sheet.ranges.devices
        (each_of (λ (q : Plan). length q ≡ length h.costs) s.plans (λ q i. (s.list.only q i).0.plan.size)) l
