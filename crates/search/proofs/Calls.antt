-- From what the walk of the sheet finds to the contract of `least_plan`.
--
-- In order: the plan stands in front of the room of our own (`in_front_lem`); the answer and the room that the code makes of an outcome
-- (`given`, `handed`); of the outcome of an answer these are its numbers (`given_numbers`) and its room (`handed_room`), and it has few
-- devices (`found_few`). The claim, for whatever the outcome was: `found`. Assumes nothing.
use mathlib.Core.Path.{◌≡◌, refl, sym, ◌∙◌, ap, subst}
use mathlib.Core.List.{List, [], ◌∷◌, append-nil}
use Prim.Native.Nat.{ℕ, ◌-◌, ◌≤◌}
use native.Mathlib.Nat.{sub-zero}
use native.Mathlib.Omega.{arith}
use lib.ListN.{length, take, drop, replicate, length-replicate}
use lib.IntN.{ℤ}
use Rattle.lists.proofs.InFront.{front_stands}
use Rattle.hall.specs.Hall.{Plan}
use Rattle.hall.specs.Answer as hall
use Rattle.hall.specs.Answer.{answer, numbers, room_after}
use Rattle.hall.specs.Demands.{Answered}
use Rattle.hall.specs.Ties.{joined}
use Rattle.hall.proofs.Answers.{answered}
use Rattle.refusals.specs.declared.Refusal.{Refusal}
use Rattle.refusals.specs.declared.Refused.{Refused}
use Rattle.std.specs.Prelude.{⊤, Result, Ok, Err}
use Rattle.refusals.proofs.Faults.{fault_kind}
use Rattle.plans.specs.Runs.{written_in}
use Rattle.plans.proofs.Writing.{write_fits}
use Rattle.walk.specs.declared.Outcome.{Outcome}
use Rattle.walk.specs.declared.Outcome.TheVariants as walk
use Rattle.walk.specs.Contract as walks
use Rattle.walk.specs.Contract.{found_room, found_of, best_found}
use Rattle.walk.proofs.Outcomes.{outcome_of, outcome_is}
use Rattle.search.specs.declared.Answer.TheVariants.{Least, None, Spent}
use Rattle.search.specs.declared.Answer.{Answer}
use Rattle.search.specs.Contract.{numbers_of, Finds}
use Rattle.search.proofs.Finds.{finds}

-- the plan stands in front of the room that was lent to the walk
in_front_lem : (p : Plan) (room : List ℕ) → length p ≤ length room → take (length p - 0) (written_in (joined (take 256 (p ∷ []))) room) ≡ p
unfolding joined
in_front_lem p room l =
    ap (λ (k : ℕ). take k (written_in (joined (take 256 (p ∷ []))) room)) (sub-zero (length p))
    ∙ ap (λ (q : Plan). take (length p) (written_in q room)) (append-nil p)
    ∙ ap (take (length p)) (write_fits p room l)
    ∙ front_stands p room

-- ── what the code makes of an outcome ──
abbrev pub given : Result Outcome (Refused Refusal) → Result Answer (Refused Refusal)
given (Ok (walk.Best n cost held equal opened)) = Ok (Least cost held opened)
given (Ok (walk.None opened)) = Ok (None opened)
given (Ok (walk.Spent opened)) = Ok (Spent opened)
given (Err e) = Err e

abbrev pub handed : Result Outcome (Refused Refusal) → (best room : List ℕ) → List ℕ
handed (Ok (walk.Best n cost held equal opened)) best room = written_in (take (n - 0) (drop 0 best)) room
handed (Ok (walk.None opened)) best room = room
handed (Ok (walk.Spent opened)) best room = room
handed (Err e) best room = room

-- a best plan is of at most 200 devices
abbrev Few : Result Outcome (Refused Refusal) → Type 0
Few (Ok (walk.Best n cost held equal opened)) = n ≤ 200
Few (Ok (walk.None opened)) = ⊤
Few (Ok (walk.Spent opened)) = ⊤
Few (Err e) = ⊤

-- ── of the outcome of an answer, with its least plan alone ──
abbrev outcome : hall.Answer → Result Outcome (Refused Refusal)
outcome a = outcome_of (found_of (λ p. p ∷ []) a)

given_numbers : (a : hall.Answer) → numbers_of (given (outcome a)) ≡ numbers a
given_numbers (hall.least c k o p) = refl
given_numbers (hall.none o) = refl
given_numbers (hall.spent o) = refl
given_numbers (hall.refused f i) = rw (fault_kind f) refl

module _ (ws : List ℤ) (budget : ℕ) (before best best' : List ℕ) where
  few : (a : hall.Answer) → Answered ws budget (length before) a → Few (outcome a)
  few (hall.least c k o p) v = let size = v.plan.sheet.plan.size in let most = v.sheet.ranges.devices in omega arith
  few (hall.none o) v = tt
  few (hall.spent o) v = tt
  few (hall.refused f i) v = tt

  handed_room : length best ≡ 200 → (a : hall.Answer) → best' ≡ found_room (found_of (λ p. p ∷ []) a) best → Answered ws budget (length before) a → handed (outcome a) best' before ≡ room_after a before
  handed_room long (hall.least c k o p) w v =
      let most = few (hall.least c k o p) v in
      let size = v.plan.sheet.plan.size in
      let fits = v.sheet.fits in
      ap (λ (q : Plan). written_in q before) (ap (take (length p - 0)) w ∙ in_front_lem p best (omega arith)) ∙ write_fits p before (omega arith)
  handed_room long (hall.none o) w v = refl
  handed_room long (hall.spent o) w v = refl
  handed_room long (hall.refused f i) w v = refl

  -- ── of the outcome that was found ──
  module _ (r : Result Outcome (Refused Refusal)) (x : walks.Finds (best_found ws (length before) budget) best r best') where
    abbrev a : hall.Answer
    a = answer ws budget (length before)

    pub found_few : {n cost held equal opened : ℕ} → r ≡ Ok (walk.Best n cost held equal opened) → n ≤ 200
    found_few e = subst Few (sym (outcome_is x) ∙ e) (few a (answered ws budget (length before)))

    pub found : best ≡ replicate 200 0 → {s : Result Outcome (Refused Refusal)} → r ≡ s → (after : List ℕ) → after ≡ handed s best' before → Finds ws budget before (given s) after
    found blank {s} e after room =
        let is : s ≡ outcome a = sym e ∙ outcome_is x in
        let long : length best ≡ 200 = ap length blank ∙ length-replicate {A = ℕ} 200 0 in
        finds ws budget before (given s) after (ap (λ t. numbers_of (given t)) is ∙ given_numbers a) (room ∙ ap (λ t. handed t best' before) is ∙ handed_room long a x.room (answered ws budget (length before)))
