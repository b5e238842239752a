-- The contract of `least_plans`, from its numbers and its room alone.
--
-- An answer that is the definition's list has its plans in the room, one behind the other, so they are read back from there (`stands`); and
-- that list has what it promises (`lists`): so, whatever the code of a short room, the numbers and the room are all that is left to show
-- (`listed_ties`). Where that code is 51 the numbers tell that it is the list (`tied_is`). The claim: `lists_ties`. Assumes nothing.
use mathlib.Core.Path.{◌≡◌, sym, ◌∙◌, ap, subst}
use mathlib.Core.List.{List}
use Prim.Native.Nat.{ℕ}
use lib.ListN.{length, drop}
use lib.IntN.{ℤ}
use Rattle.lists.proofs.Each.{each_of}
use Rattle.hall.specs.Hall.{Plan}
use Rattle.hall.specs.Due.{devices_on}
use Rattle.hall.specs.Ties.{joined}
use Rattle.hall.specs.Listing.{Listing, listed, none, spent, refused, short, listing, list_numbers, list_room_after, Lists}
use Rattle.hall.proofs.Sheets.{devices_on_lem}
use Rattle.hall.proofs.Listed.{lists}
use Rattle.refusals.specs.declared.Refused.{Refused}
use Rattle.refusals.specs.declared.RoomRefusal.{RoomRefusal}
use Rattle.refusals.proofs.Faults.{fault_kind}
use Rattle.std.specs.Prelude.{Result}
use Rattle.plans.proofs.Runs.{Sized, plans_in_front}
use Rattle.tied.specs.declared.Tied.{Tied}
use Rattle.tied.specs.Contract.{Hindrance, numbers_of, listing_of, plans_of, ListsTies}
use Rattle.tied.proofs.Numbers.{tied_of, tied_is}

module _ {code : ℕ} (ws : List ℤ) (budget : ℕ) (before : List ℕ) (r : Result Tied (Refused (RoomRefusal code))) (after : List ℕ) where
  stands : (a : Listing) → r ≡ tied_of a → after ≡ list_room_after a before → Lists ws budget (length before) a → listing_of r (plans_of ws r after) ≡ a
  stands (listed cost held opened ps) is room s =
      let sizes : Sized (devices_on ws) ps = each_of (λ (q : Plan). length q ≡ devices_on ws) ps (λ q i. (s.list.only q i).0.plan.size ∙ sym (devices_on_lem s.least.sheet)) in
      let back = plans_in_front (devices_on ws) ps (drop (length (joined ps)) before) sizes in
      rw (is, room) (ap (listed cost held opened) back)
  stands (none opened) is room s = rw is
  stands (spent opened) is room s = rw is
  stands (refused f place) is room s = rw (is, fault_kind f)
  stands (short place) is room s = rw is

  pub listed_ties : r ≡ tied_of (listing ws budget (length before)) → numbers_of r ≡ list_numbers (listing ws budget (length before)) → after ≡ list_room_after (listing ws budget (length before)) before → ListsTies ws budget before r after
  listed_ties is says room =
      let a = listing ws budget (length before) in
      let s = lists ws budget (length before) in
      record { says = says; room = room; claim = subst (Lists ws budget (length before)) (sym (stands a is room s)) s }

pub lists_ties : (ws : List ℤ) (budget : ℕ) (before : List ℕ) (r : Result Tied (Refused Hindrance)) (after : List ℕ) → numbers_of r ≡ list_numbers (listing ws budget (length before)) → after ≡ list_room_after (listing ws budget (length before)) before → ListsTies ws budget before r after
lists_ties ws budget before r after says = listed_ties ws budget before r after (tied_is r (listing ws budget (length before)) says) says
