-- From what the sheet's reader and the walk of a hall give to the contracts of `best_of` and `ties_of`.
--
-- In order: the rules that every plan meets change nothing of what is handed on (`handed_without`); a refused sheet (`find_refused`); that what is left of the hall of an
-- accepted sheet can be walked (`find_loaded`), and that what is found there is found of the whole hall (`find_found`); either is what the
-- public contracts say (`best_is`). What is known of the sheet and of the arrays is Lying of `needed`. Assumes nothing.
use mathlib.Core.Path.{◌≡◌, refl, sym, ◌∙◌, ap, subst}
use mathlib.Core.List.{List, [], ◌∷◌}
use Prim.Native.Nat.{ℕ}
use lib.ListN.{take}
use lib.IntN.{ℤ}
use Rattle.hall.specs.Hall.{Hall, Plan, without}
use Rattle.hall.specs.Walk.{walk_hall}
use Rattle.hall.specs.Reading.{Read, bad, got, decode}
use Rattle.hall.specs.Answer.{within, answer_read, answer}
use Rattle.hall.specs.Ties.{Kept, nothing_kept, keep_all}
use Rattle.hall.proofs.LeftOut.{met_without, walk_without, within_without}
use Rattle.sheet.specs.Coded.{hall_of}
use Rattle.std.specs.Prelude.{Result, Ok, Err}
use Rattle.refusals.specs.declared.Refusal.{Refusal}
use Rattle.refusals.specs.declared.Refused.{Refused}
use Rattle.sheet.specs.declared.Size.{Size}
use Rattle.needed.specs.Contract.{ReadsNeeded}
use Rattle.needed.specs.Loaded.{Loaded}
use Rattle.needed.proofs.Lying.{read_refused, Lies, read_lies, lies_loaded}
use Rattle.walk.specs.Contract.{found_of, best_found, kept_ties, handed, found_read, found, Finds}
use Rattle.walk.specs.declared.Outcome.{Outcome}
use Rattle.walk.specs.declared.solve.Asked.{Asked}
use Rattle.walk.specs.declared.solve.Asked.TheVariants.{Best, Ties}

-- ── the rules that every plan meets ──
keeps_without : (h : Hall) (ps : List Plan) (k : Kept) → keep_all (without h) k ps ≡ keep_all h k ps
unfolding keep_all
keeps_without h [] k = refl
keeps_without h (p ∷ ps) k = rw (met_without p h.rules) (keeps_without h ps _)

kept_without : (h : Hall) → kept_ties (without h) ≡ kept_ties h
kept_without h = ap (λ (k : Kept). k.ties) (keeps_without h (walk_hall (without h)).plans nothing_kept) ∙ ap (λ w. (keep_all h nothing_kept w.plans).ties) (walk_without h)

handed_without : (a : Asked) (h : Hall) (budget : ℕ) → found_of (handed a (without h)) (within (without h) budget (walk_hall (without h))) ≡ found_of (handed a h) (within h budget (walk_hall h))
handed_without Best h budget = ap (found_of (λ p. p ∷ [])) (within_without h budget)
handed_without Ties h budget =
    ap (λ (ts : List Plan). found_of (λ p. ts) (within (without h) budget (walk_hall (without h)))) (kept_without h)
    ∙ ap (found_of (λ p. kept_ties h)) (within_without h budget)

-- ── a refused sheet ──
pub find_refused : {ws : List ℤ} {room : ℕ} {costs codes starts costs' codes' starts' : List ℕ} {s : Result Size (Refused Refusal)} → ReadsNeeded ws room costs codes starts s costs' codes' starts'
    → {f : Refused Refusal} → s ≡ Err f → (a : Asked) (budget : ℕ) (before : List ℕ) → Finds (found a ws room budget) before (Err f) before
find_refused d e a budget before = rw (read_refused d e) (record { says = refl; room = refl })

-- ── an accepted sheet ──
module _ {ws : List ℤ} {room : ℕ} {costs codes starts costs' codes' starts' : List ℕ} {s : Result Size (Refused Refusal)} (d : ReadsNeeded ws room costs codes starts s costs' codes' starts') {size : Size} (e : s ≡ Ok size) where
  lies : Lies ws room size.devices size.rules costs' codes' starts'
  lies = read_lies d e

  pub find_loaded : Loaded (take size.devices costs') codes' starts' size.rules
  find_loaded = lies_loaded lies

  -- the hall that was walked is the sheet's without the rules that every plan meets
  abbrev walked : Hall
  walked = hall_of (take size.devices costs') codes' starts' size.rules

  pub find_found : (a : Asked) (budget : ℕ) (before : List ℕ) {r : Result Outcome (Refused Refusal)} {after : List ℕ} → Finds (found_of (handed a walked) (within walked budget (walk_hall walked))) before r after → Finds (found a ws room budget) before r after
  find_found a budget before {r} {after} g =
      let h = lies.whole in
      let is : found_of (handed a walked) (within walked budget (walk_hall walked)) ≡ found a ws room budget =
      ap (λ (x : Hall). found_of (handed a x) (within x budget (walk_hall x))) lies.back ∙ handed_without a h budget ∙ sym (ap (found_read a budget) lies.is) in
      subst (λ x. Finds x before r after) is g

-- ── the best plan ──
best_read : (budget : ℕ) (x : Read Hall) → found_read Best budget x ≡ found_of (λ p. p ∷ []) (answer_read budget x)
best_read budget (bad f i) = refl
best_read budget (got h i) = refl

pub best_is : (ws : List ℤ) (room budget : ℕ) (before : List ℕ) {r : Result Outcome (Refused Refusal)} {after : List ℕ} → Finds (found Best ws room budget) before r after → Finds (best_found ws room budget) before r after
unfolding answer
best_is ws room budget before {r} {after} g = subst (λ x. Finds x before r after) (best_read budget (decode room ws)) g
