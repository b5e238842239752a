-- The contract of `least_plan`, from its numbers and its room alone.
--
-- In order: an answer of the definitions as one of the code (`result_of`), which is the one with the same numbers (`match`); with the plan that
-- stands in the room it is that answer, which meets the demands (`finds`). Assumes nothing.
use mathlib.Core.Path.{◌≡◌, sym, ◌∙◌, ap, subst}
use mathlib.Core.List.{List}
use Prim.Native.Nat.{ℕ}
use native.Mathlib.Omega.{arith}
use lib.ListN.{length, take}
use lib.IntN.{ℤ}
use Rattle.lists.proofs.InFront.{front_stands}
use Rattle.hall.specs.Due.{devices_on}
use Rattle.hall.specs.Answer as hall
use Rattle.hall.specs.Answer.{answer, numbers, room_after}
use Rattle.hall.specs.Demands.{Answered}
use Rattle.hall.proofs.Refusals.{code_large}
use Rattle.hall.proofs.Sheets.{devices_on_lem}
use Rattle.hall.proofs.Answers.{answered}
use Rattle.refusals.specs.Contract.{fault_of, kind_of}
use Rattle.refusals.specs.declared.Refusal.{Refusal}
use Rattle.refusals.specs.declared.Refused.{Refused}
use Rattle.refusals.proofs.Faults.{fault_kind}
use Rattle.refusals.proofs.Only.{refusal_only}
use Rattle.std.specs.Prelude.{Result, Ok, Err}
use Rattle.search.specs.declared.Answer.{Answer}
use Rattle.search.specs.declared.Answer.TheVariants.{Least, None, Spent}
use Rattle.search.specs.Contract.{numbers_of, answer_of, Finds}

-- ── the same case ──
abbrev pub result_of : hall.Answer → Result Answer (Refused Refusal)
result_of (hall.least cost held opened p) = Ok (Least cost held opened)
result_of (hall.none opened) = Ok (None opened)
result_of (hall.spent opened) = Ok (Spent opened)
result_of (hall.refused f place) = Err (record { kind = kind_of f; place = place })

pub match : (r : Result Answer (Refused Refusal)) (a : hall.Answer) → numbers_of r ≡ numbers a → r ≡ result_of a
match (Ok (Least c k o)) (hall.least c' k' o' p) e = let x : c ≡ c' = cc in let y : k ≡ k' = cc in let z : o ≡ o' = cc in rw (x, y, z)
match (Ok (Least c k o)) (hall.none o') e = absurd (let z : ◌≡◌ {A = ℕ} 0 1 = cc in omega arith)
match (Ok (Least c k o)) (hall.spent o') e = absurd (let z : ◌≡◌ {A = ℕ} 0 2 = cc in omega arith)
match (Ok (Least c k o)) (hall.refused f i) e = absurd (omega (arith, code_large f i _ (sym e)))
match (Ok (None o)) (hall.least c k o' p) e = absurd (let z : ◌≡◌ {A = ℕ} 1 0 = cc in omega arith)
match (Ok (None o)) (hall.none o') e = let x : o ≡ o' = cc in rw x
match (Ok (None o)) (hall.spent o') e = absurd (let z : ◌≡◌ {A = ℕ} 1 2 = cc in omega arith)
match (Ok (None o)) (hall.refused f i) e = absurd (omega (arith, code_large f i _ (sym e)))
match (Ok (Spent o)) (hall.least c k o' p) e = absurd (let z : ◌≡◌ {A = ℕ} 2 0 = cc in omega arith)
match (Ok (Spent o)) (hall.none o') e = absurd (let z : ◌≡◌ {A = ℕ} 2 1 = cc in omega arith)
match (Ok (Spent o)) (hall.spent o') e = let x : o ≡ o' = cc in rw x
match (Ok (Spent o)) (hall.refused f i) e = absurd (omega (arith, code_large f i _ (sym e)))
match (Err x) (hall.least c h o p) e = absurd (omega (arith, code_large (fault_of x.kind) x.place _ e))
match (Err x) (hall.none o) e = absurd (omega (arith, code_large (fault_of x.kind) x.place _ e))
match (Err x) (hall.spent o) e = absurd (omega (arith, code_large (fault_of x.kind) x.place _ e))
match (Err x) (hall.refused f j) e = let y = refusal_only x.kind (kind_of f) x.place j (rw (fault_kind f) e) in ap Err (rw (y.0, y.1))

-- ── the plan in the room ──
module _ (ws : List ℤ) (budget : ℕ) (before : List ℕ) (r : Result Answer (Refused Refusal)) (after : List ℕ) where
  stands : (a : hall.Answer) → r ≡ result_of a → after ≡ room_after a before → Answered ws budget (length before) a → answer_of r (take (devices_on ws) after) ≡ a
  stands (hall.least c k o p) m room v =
      let n : devices_on ws ≡ length p = devices_on_lem v.sheet ∙ sym v.plan.sheet.plan.size in
      let t : take (devices_on ws) after ≡ p = ap (λ (i : ℕ). take i after) n ∙ ap (take (length p)) room ∙ front_stands p before in
      rw (m, t)
  stands (hall.none o) m room v = rw m
  stands (hall.spent o) m room v = rw m
  stands (hall.refused f i) m room v = rw (m, fault_kind f)

  pub finds : numbers_of r ≡ numbers (answer ws budget (length before)) → after ≡ room_after (answer ws budget (length before)) before → Finds ws budget before r after
  finds says room =
      let a = answer ws budget (length before) in
      let v = answered ws budget (length before) in
      record { says = says; room = room; demands = subst (Answered ws budget (length before)) (sym (stands a (match r a says) room v)) v }
