-- The numbers of a refusal tell it.
--
-- In order: the kind that numbers tell (`fault_at`), and what each kind's numbers say (`Identifies`, `tells`): the code is none of 0, 1 and 2
-- (`code_large`); equal numbers, equal kinds, rules and places (`refusal_injective`). Assumes nothing.
use mathlib.Core.Path.{◌≡◌, refl, sym, ◌∙◌, ap, subst}
use mathlib.Core.List.{List}
use Prim.Native.Nat.{ℕ, zero, suc, ◌-◌, ◌≤◌}
use native.Mathlib.Omega.{arith}
use lib.ListN.{get_or}
use Rattle.hall.specs.Reading.{Fault, too_short, bad_device_count, bad_cost, bad_entry, extra_words, small_room, too_long, bad_rule_count, bad_width, refusal_numbers}

-- the kind that numbers tell: by their code, counted from 11, and by the third of them
pub fault_at : ℕ → List ℕ → Fault
fault_at zero l = too_short
fault_at (suc zero) l = bad_device_count
fault_at (suc (suc zero)) l = bad_cost
fault_at (suc (suc (suc zero))) l = bad_entry
fault_at (suc (suc (suc (suc zero)))) l = extra_words
fault_at (suc (suc (suc (suc (suc zero))))) l = small_room
fault_at (suc (suc (suc (suc (suc (suc zero)))))) l = too_long
fault_at (suc (suc (suc (suc (suc (suc (suc zero))))))) l = bad_rule_count
fault_at (suc (suc (suc (suc (suc (suc (suc (suc k)))))))) l = bad_width (get_or l 2 0)

-- what each kind's numbers say
pub record Identifies (f : Fault) (place : ℕ) (numbers : List ℕ) : Type 0 where
  pub large : 11 ≤ get_or numbers 0 0
  pub small : get_or numbers 0 0 ≤ 19
  pub kind : fault_at (get_or numbers 0 0 - 11) numbers ≡ f
  pub at : get_or numbers 1 0 ≡ place

pub tells : (f : Fault) (place : ℕ) → Identifies f place (refusal_numbers f place)
unfolding fault_at
tells too_short place = record { large = omega arith; small = omega arith; kind = refl; at = refl }
tells bad_device_count place = record { large = omega arith; small = omega arith; kind = refl; at = refl }
tells bad_cost place = record { large = omega arith; small = omega arith; kind = refl; at = refl }
tells bad_entry place = record { large = omega arith; small = omega arith; kind = refl; at = refl }
tells extra_words place = record { large = omega arith; small = omega arith; kind = refl; at = refl }
tells small_room place = record { large = omega arith; small = omega arith; kind = refl; at = refl }
tells too_long place = record { large = omega arith; small = omega arith; kind = refl; at = refl }
tells bad_rule_count place = record { large = omega arith; small = omega arith; kind = refl; at = refl }
tells (bad_width rule) place = record { large = omega arith; small = omega arith; kind = refl; at = refl }

pub code_large : (f : Fault) (place : ℕ) (numbers : List ℕ) → refusal_numbers f place ≡ numbers → 11 ≤ get_or numbers 0 0
code_large f place numbers e = subst (λ (l : List ℕ). 11 ≤ get_or l 0 0) e (tells f place).large

pub refusal_injective : (f g : Fault) (i j : ℕ) → refusal_numbers f i ≡ refusal_numbers g j → (f ≡ g) × (i ≡ j)
refusal_injective f g i j e =
    (sym (tells f i).kind ∙ ap (λ (l : List ℕ). fault_at (get_or l 0 0 - 11) l) e ∙ (tells g j).kind, sym (tells f i).at ∙ ap (λ (l : List ℕ). get_or l 1 0) e ∙ (tells g j).at)
