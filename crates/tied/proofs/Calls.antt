-- From what the walk of the sheet finds, and the plans put in order, to the contract of `least_plans`.
--
-- In order: a list that is known, as the contract (`listed_as`); what is known of the walk's outcome as it is handed on (`Handled`,
-- `handled`, `ended`): of a best plan and of the plans that tie (`Finished`), else the contract itself; more than 256 plans
-- (`call_many`); else they lie in front of the room of our own (`call_small`, `call_end`), and putting them in order leaves the list's
-- plans, which have place in the caller's room (`call_listed`) or not (`call_short`). A short room is told where its code is 51; all else
-- holds of any code. Assumes nothing.
use mathlib.Core.Path.{◌≡◌, refl, sym, ◌∙◌, ap, subst}
use mathlib.Core.Logic.{◌⊎◌, inl, inr}
use mathlib.Core.Bool.{Bool, true, false, cond}
use mathlib.Core.List.{List, [], ◌∷◌}
use Prim.Native.Nat.{ℕ, zero, suc, ◌-◌, ◌*◌, ◌≤◌, ◌<◌, min}
use native.Mathlib.Nat.{mul-le-mul_right}
use native.Mathlib.Omega.{arith}
use lib.ListN.{length, take, replicate, length-replicate}
use lib.Seq.{take_all}
use lib.IntN.{ℤ}
use lib.Dec.{leb}
use borrow.Author.Tests.{leb-true, leb-false}
use Rattle.lists.specs.Lists.{in_front}
use Rattle.lists.proofs.InFront.{room_as_long, front_taken}
use Rattle.hall.specs.Hall.{Plan}
use Rattle.hall.specs.Ties.{in_order, joined}
use Rattle.hall.specs.Listing.{Listing, listed, none, spent, refused, short, fits, listed_by, listing, list_numbers, list_room_after}
use Rattle.hall.proofs.Listed.{fits_exact, over_exact}
use Rattle.refusals.specs.declared.Refusal.{Refusal}
use Rattle.refusals.specs.declared.Refused.{Refused}
use Rattle.std.specs.Prelude.{Result, Ok, Err}
use Rattle.plans.specs.Runs.{plans_in, written_in, PutsInOrder}
use Rattle.plans.proofs.Writing.{write_fits}
use Rattle.plans.proofs.Runs.{plans_none, joined_length, plans_joined}
use Rattle.walk.specs.declared.Outcome.{Outcome}
use Rattle.walk.specs.declared.Outcome.TheVariants as walk
use Rattle.walk.specs.Contract as walks
use Rattle.walk.specs.Contract.{Found, found_room, ties_found}
use Rattle.walk.proofs.Outcomes.{outcome_of, outcome_is}
use Rattle.refusals.specs.declared.RoomRefusal.{RoomRefusal}
use Rattle.refusals.specs.declared.RoomRefusal.TheVariants.{ShortRoom}
use Rattle.refusals.proofs.Faults.{fault_kind}
use Rattle.tied.specs.declared.Tied.{Tied}
use Rattle.tied.specs.declared.Tied.TheVariants.{Plans, None, Spent}
use Rattle.tied.specs.Contract.{numbers_of, ListsTies}
use Rattle.tied.proofs.Numbers.{tied_of}
use Rattle.tied.proofs.Under.{under, Under, under_is}
use Rattle.tied.proofs.Claim.{listed_ties}
use Rattle.tied.proofs.Handed.{Handed, Agrees, agrees}

-- ── plans put in order ──
-- of plans of no marks, which lie in no byte, there is one
handed_order : (n : ℕ) (ts ps : List Plan) → Handed n ts ps → joined (in_order (plans_in n (joined ts))) ≡ joined ps
unfolding in_order joined
handed_order zero ts ps d = rw (plans_none zero (joined ts) refl, d.alone refl) refl
handed_order (suc n) ts ps d = ap (λ (qs : List Plan). joined (in_order qs)) (plans_joined (suc n) ts (omega arith) d.sizes) ∙ ap joined d.order

handed_length : (n : ℕ) (ts ps : List Plan) → Handed n ts ps → length (joined ts) ≡ length (joined ps)
handed_length n ts ps d = joined_length n ts d.sizes ∙ ap (λ (k : ℕ). k * n) d.number ∙ sym (joined_length n ps d.sized)

module _ (ws : List ℤ) (budget : ℕ) (before : List ℕ) where
  -- the answer of a list that is known, and whose numbers are told
  listed_as : {code : ℕ} (a : Listing) (after : List ℕ) → numbers_of (tied_of {code = code} a) ≡ list_numbers a → listing ws budget (length before) ≡ a → after ≡ list_room_after a before → ListsTies ws budget before (tied_of {code = code} a) after
  listed_as a after told is room =
      listed_ties ws budget before (tied_of a) after (ap tied_of (sym is)) (told ∙ sym (ap list_numbers is)) (room ∙ sym (ap (λ (b : Listing). list_room_after b before) is))

  -- ── the walk's outcome was handed on ──
  module _ (run run' : List ℕ) where
    -- a best plan was found: the plans that tie as they were handed on, and the list that they make
    pub record Finished (n cost held number opened : ℕ) : Type 0 where
      pub ts : List Plan
      pub ps : List Plan
      pub handed : Handed n ts ps
      pub count : number ≡ min 257 (length ts)
      pub wrote : run' ≡ written_in (joined (take 256 ts)) run
      pub is : listing ws budget (length before) ≡ listed_by (fits (length before) ps) (length before) cost held opened ps

    -- a refusal is among the kinds of hindrance by now
    abbrev pub Handled : (code : ℕ) → Result Outcome (Refused (RoomRefusal code)) → Type 0
    Handled code (Ok (walk.Best n cost held number opened)) = Finished n cost held number opened
    Handled code (Ok (walk.None opened)) = ListsTies {code = code} ws budget before (Ok (None opened)) before
    Handled code (Ok (walk.Spent opened)) = ListsTies {code = code} ws budget before (Ok (Spent opened)) before
    Handled code (Err e) = ListsTies ws budget before (Err e) before

    by_case : (code : ℕ) (f : Found) → run' ≡ found_room f run → Agrees (length before) f (listing ws budget (length before)) → Handled code (under code (outcome_of f))
    by_case code (walks.best n cost held opened ts) room a = record { ts = ts; ps = a.0; handed = a.1; count = refl; wrote = room; is = a.2 }
    by_case code (walks.none opened) room a = listed_as (none opened) before refl a refl
    by_case code (walks.spent opened) room a = listed_as (spent opened) before refl a refl
    by_case code (walks.refused f i) room a = listed_as (refused f i) before (rw (fault_kind f) refl) a refl

    module _ (code : ℕ) {o : Result Outcome (Refused Refusal)} (x : walks.Finds (ties_found ws budget) run o run') where
      pub handled : (m : Result Outcome (Refused (RoomRefusal code))) → Under code o m → Handled code m
      handled m u = subst (Handled code) (sym (under_is code o m u ∙ ap (under code) (outcome_is x))) (by_case code (ties_found ws budget) x.room (agrees ws budget (length before)))

      pub ended : {found s : Outcome} → Under code o (Ok found) → found ≡ s → Handled code (Ok s)
      ended {found} u e = subst (λ (s : Outcome). Handled code (Ok s)) e (handled (Ok found) u)

      -- ── a best plan was found ──
      module _ {found : Outcome} (u : Under code o (Ok found)) {n cost held number opened : ℕ} (e : found ≡ walk.Best n cost held number opened) where
        f : Finished n cost held number opened
        f = ended u e

        abbrev over : Result Tied (Refused (RoomRefusal code))
        over = Err (record { kind = ShortRoom; place = length before })

        -- the list does not fit
        too_short : code ≡ 51 → (256 < length f.ps) ⊎ (length before < length (joined f.ps)) → (after : List ℕ) → after ≡ before → ListsTies ws budget before over after
        too_short code_is l after same =
            listed_as (short (length before)) after (ap (λ (k : ℕ). k ∷ length before ∷ []) code_is) (f.is ∙ ap (λ (t : Bool). listed_by t (length before) cost held opened f.ps) ((over_exact (length before) f.ps).1 l)) same

        pub call_many : code ≡ 51 → 256 < number → ListsTies ws budget before over before
        call_many code_is l = too_short code_is (inl (omega (arith, f.count, f.handed.number))) before refl

        -- ── no more than 256 ──
        module _ (few : number ≤ 256) where
          all : number ≡ length f.ts
          all = omega (arith, f.count)

          pub call_small : number * n ≤ 51200
          call_small = omega (arith, mul-le-mul_right {m = number} {n = 256} n few, f.handed.few)

          size : number * n ≡ length (joined f.ts)
          size = ap (λ (k : ℕ). k * n) all ∙ sym (joined_length n f.ts f.handed.sizes)

          module _ (made : run ≡ replicate 51200 0) where
            long : length run ≡ 51200
            long = ap length made ∙ length-replicate {A = ℕ} 51200 0

            front : run' ≡ in_front (joined f.ts) run
            front =
                f.wrote
                ∙ ap (λ (qs : List Plan). written_in (joined qs) run) (take_all 256 f.ts (omega (arith, all)))
                ∙ write_fits (joined f.ts) run (omega (arith, long, size, call_small))

            pub call_end : number * n ≤ length run'
            call_end = omega (arith, call_small, long, ap length front, room_as_long (joined f.ts) run (omega (arith, long, size, call_small)))

            -- ── the plans put in order ──
            module _ {r : Bool} {after : List ℕ} (put : PutsInOrder n (take (number * n - 0) run') before r after) where
              ordered : PutsInOrder n (joined f.ts) before r after
              ordered = subst (λ (l : List ℕ). PutsInOrder n l before r after) (front_taken (joined f.ts) run run' (number * n) size front) put

              abbrev place : Bool
              place = leb (length (joined f.ts)) (length before)

              pub call_listed : r ≡ true → ListsTies {code = code} ws budget before (Ok (Plans cost held number opened)) after
              call_listed e =
                  let d = f.handed in
                  let has : place ≡ true = sym ordered.says ∙ e in
                  let l = leb-true (length (joined f.ts)) (length before) has in
                  let as_many : number ≡ length f.ps = all ∙ d.number in
                  let fit = (fits_exact (length before) f.ps).1 (omega arith, omega (arith, handed_length n f.ts f.ps d)) in
                  let put-there = ordered.room ∙ ap (λ (t : Bool). cond t (in_front (joined (in_order (plans_in n (joined f.ts)))) before) before) has
                  ∙ ap (λ (l : List ℕ). in_front l before) (handed_order n f.ts f.ps d) in
                  rw as_many
                  (listed_as (listed cost held opened f.ps) after refl (f.is ∙ ap (λ (t : Bool). listed_by t (length before) cost held opened f.ps) fit) put-there)

              pub call_short : code ≡ 51 → r ≡ false → ListsTies ws budget before over after
              call_short code_is e =
                  let not : place ≡ false = sym ordered.says ∙ e in
                  let l = leb-false (length (joined f.ts)) (length before) not in
                  let same : after ≡ before = ordered.room ∙ ap (λ (t : Bool). cond t (in_front (joined (in_order (plans_in n (joined f.ts)))) before) before) not in
                  too_short code_is (inr (omega (arith, handed_length n f.ts f.ps f.handed))) after same
