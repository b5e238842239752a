-- What the walk of a sheet finds is what is listed.
--
-- In order: where there are no devices there is one plan (`one_plan`); the plans that the walk hands on, in order, are the list's, and as
-- many (`Handed`, `handed`), since the walk keeps every plan that ties with its best (`kept_order`, `kept_best`). The claim, for every
-- case of what is found: `agrees`. Assumes nothing.
use mathlib.Core.Path.{◌≡◌, refl, sym, ◌∙◌, ap, subst}
use mathlib.Core.Bool.{Bool, true, false}
use mathlib.Core.List.{List, [], ◌∷◌}
use Prim.Native.Nat.{ℕ, ◌≤◌}
use native.Mathlib.Omega.{arith}
use lib.ListN.{length}
use lib.IntN.{ℤ}
use lib.Dec.{ltb}
use Rattle.lists.specs.Lists.{In}
use Rattle.lists.proofs.Cases.{both}
use Rattle.lists.proofs.Each.{each_of}
use Rattle.lists.proofs.In.{in_none}
use Rattle.hall.specs.Hall.{Hall, Plan, PlanOf}
use Rattle.hall.specs.Walk.{Best, none_yet, so_far, walk_hall}
use Rattle.hall.specs.Reading.{Read, bad, got, decode}
use Rattle.hall.specs.Answer.{finished, spent_by}
use Rattle.hall.specs.Ties.{in_order, equal_to}
use Rattle.hall.specs.Listing.{Listing, none, spent, refused, fits, listed_by, finished_list, list_spent_by, list_read, listing, Ranked}
use Rattle.hall.proofs.Order.{better_irreflexive}
use Rattle.hall.proofs.Least.{best_least}
use Rattle.hall.proofs.Opened.{opened_plan}
use Rattle.hall.proofs.EveryTie.{all_ties}
use Rattle.hall.proofs.Keeping.{kept_order, kept_number, kept_plan, kept_best}
use Rattle.hall.proofs.Reasons.{decoded}
use Rattle.plans.proofs.Runs.{Sized}
use Rattle.walk.specs.Contract as walk
use Rattle.walk.specs.Contract.{Found, found_of, kept_ties, ties_read, ties_found}

-- ── no devices, one plan ──
-- two plans without marks are the same, so neither is better
one_plan : (cs : List ℕ) (ps : List Plan) → Sized 0 ps → Ranked cs ps → (ps ≡ [] → ⊥) → ps ≡ [] ∷ []
one_plan cs [] s r n = absurd (n refl)
one_plan cs ([] ∷ []) s r n = refl
one_plan cs ([] ∷ [] ∷ ps) s r n = both r.0 (better_irreflexive cs [])
one_plan cs ([] ∷ (m ∷ q) ∷ ps) s r n = absurd (omega (arith, s.1.0))
one_plan cs ((m ∷ p) ∷ ps) s r n = absurd (omega (arith, s.0))

-- ── the plans handed on ──
-- ts, of n marks each, are handed on; in order they are ps
pub record Handed (n : ℕ) (ts ps : List Plan) : Type 0 where
  pub few : n ≤ 200
  pub sizes : Sized n ts
  pub sized : Sized n ps
  pub order : in_order ts ≡ ps
  pub number : length ts ≡ length ps
  pub alone : n ≡ 0 → ps ≡ [] ∷ []

module _ (h : Hall) (p : Plan) (few : length h.costs ≤ 200) (best : (walk_hall h).best ≡ so_far p) where
  order : in_order (kept_ties h) ≡ equal_to h p
  unfolding equal_to
  order = kept_order h (walk_hall h).plans p (kept_best h ∙ best)

  size : length p ≡ length h.costs
  size = (best_least h p best).sheet.plan.size

  sized : Sized (length p) (equal_to h p)
  sized = each_of (λ (q : Plan). length q ≡ length p) (equal_to h p) (λ q i. ((all_ties h p best).only q i).0.plan.size ∙ sym size)

  -- p itself is one of them
  some : equal_to h p ≡ [] → ⊥
  some e = in_none (subst (In p) e ((all_ties h p best).every p (best_least h p best).sheet refl refl))

  handed : Handed (length p) (kept_ties h) (equal_to h p)
  handed = record {
    few = omega (arith, size);
    sizes = each_of (λ (q : Plan). length q ≡ length p) (kept_ties h) (λ q i. (kept_plan (PlanOf h) h (walk_hall h).plans (opened_plan h) q i).size ∙ sym size);
    sized = sized;
    order = order;
    number = sym (kept_number h (walk_hall h).plans) ∙ ap length order;
    alone = λ e. one_plan h.costs (equal_to h p) (subst (λ (n : ℕ). Sized n (equal_to h p)) e sized) (all_ties h p best).ranked some;
  }

-- ── every case ──
-- a list agrees with what is found: a best plan with the plans handed on, or the same case
abbrev pub Agrees : (room : ℕ) → Found → Listing → Type 0
Agrees room (walk.best n cost held opened ts) a = (ps : List Plan) × Handed n ts ps × (a ≡ listed_by (fits room ps) room cost held opened ps)
Agrees room (walk.none opened) a = a ≡ none opened
Agrees room (walk.spent opened) a = a ≡ spent opened
Agrees room (walk.refused f place) a = a ≡ refused f place

pub agrees : (ws : List ℤ) (budget room : ℕ) → Agrees room (ties_found ws budget) (listing ws budget room)
unfolding listing
agrees ws budget room = read (decode 200 ws) refl
  where
    ended : (h : Hall) → length h.costs ≤ 200 → (opened : ℕ) (b : Best) → (walk_hall h).best ≡ b → Agrees room (found_of (λ p. kept_ties h) (finished h opened b)) (finished_list h room opened b)
    ended h few opened none_yet e = refl
    ended h few opened (so_far p) e = (equal_to h p, handed h p few e, refl)

    walked : (h : Hall) → length h.costs ≤ 200 → (t : Bool) → Agrees room (found_of (λ p. kept_ties h) (spent_by t h budget (walk_hall h))) (list_spent_by t h budget room (walk_hall h))
    walked h few true = refl
    walked h few false = ended h few (walk_hall h).opened (walk_hall h).best refl

    read : (x : Read Hall) → decode 200 ws ≡ x → Agrees room (ties_read budget x) (list_read budget room x)
    read (bad f i) e = refl
    read (got h i) e = walked h (decoded ws 200 h i e).ranges.devices (ltb budget (walk_hall h).opened)
