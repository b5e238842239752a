-- THE LAW OF `Ends`: two parts of a walk, one after the other (`ends_then`). And what the meter says of a single node (`admitted`,
-- `stopped`). All that is known of the budget is known from these. Assumes nothing.
use mathlib.Core.Path.{◌≡◌, refl, sym, ap, ◌∙◌, subst}
use mathlib.Core.Bool.{Bool, true, false, cond}
use mathlib.Core.List.{List}
use Prim.Native.Nat.{ℕ, ◌+◌, ◌≤◌, ◌<◌}
use native.Mathlib.Omega.{arith}
use lib.ListN.{length}
use Rattle.std.proofs.Common.{Result, Ok, Err}
use lib.Dec.{ltb}
use borrow.Author.Tests.{ltb-true, ltb-false}
use Rattle.hall.specs.Hall.{Hall}
use Rattle.hall.specs.Walk.{Walked, after}
use Rattle.hall.proofs.Keeping.{keep_append}
use Rattle.walk.specs.declared.meter.Meter.{Meter}
use Rattle.walk.specs.declared.meter.Spent.{Spent}
use Rattle.walk.specs.declared.kept.State.{State}
use Rattle.walk.specs.Meter.{counted, admit}
use Rattle.walk.specs.Kept.{Holds}
use Rattle.walk.specs.Ends.{WentOn, Ends}

module _ {h : Hall} {s : State} {kept : List ℕ} {v : Walked} {next : State} {kept' : List ℕ} (x : WentOn h s kept v next kept') where
  -- the meter that the first part left
  left : (next.meter.count ≡ s.meter.count + v.opened) × (next.meter.budget ≡ s.meter.budget)
  left = (ap (λ (n : Meter). n.count) x.meter, ap (λ (n : Meter). n.budget) x.meter)

  pub still_budgeted : next.meter.count ≤ next.meter.budget
  still_budgeted = let l = left in let w = x.within in omega arith

  pub ends_then : (w : Walked) (went : Result State Spent) (kept'' : List ℕ) → Ends h next kept' w went kept'' → Ends h s kept (after v w) went kept''
  unfolding after
  ends_then w (Ok last) kept'' y =
      let l = left in
      let u = y.within in
      record {
        within = omega arith;
        meter = y.meter ∙ rw x.meter (ap (λ (k : ℕ). record { budget = s.meter.budget; count = k }) (omega arith));
        best = y.best;
        shown = y.shown;
        most = y.most ∙ x.most;
        ties = λ k q. subst (Holds (length h.costs) last kept'') (sym (keep_append h k v.plans w.plans)) (y.ties _ (x.ties k q));
      }
  ends_then w (Err end) kept'' y = let l = left in let u = y.over in record { over = omega arith; count = y.count ∙ l.1 }

-- ── the meter ──
module _ (mt : Meter) (a : Result Meter Spent) (e : a ≡ admit mt) where
  pub admitted : (next : Meter) → a ≡ Ok next → (mt.count + 1 ≤ mt.budget) × (next ≡ counted 1 mt)
  admitted next f = go (ltb mt.count mt.budget) refl (sym e ∙ f)
    where
      go : (t : Bool) → ltb mt.count mt.budget ≡ t → cond {A = Result Meter Spent} t (Ok (counted 1 mt)) (Err (record { opened = mt.count })) ≡ Ok next → (mt.count + 1 ≤ mt.budget) × (next ≡ counted 1 mt)
      go true u h = (omega (arith, ltb-true mt.count mt.budget u), cc)
      go false u h = cc

  pub stopped : (end : Spent) → a ≡ Err end → mt.count ≤ mt.budget → (mt.budget < mt.count + 1) × (end.opened ≡ mt.budget)
  stopped end f le = go (ltb mt.count mt.budget) refl (sym e ∙ f)
    where
      go : (t : Bool) → ltb mt.count mt.budget ≡ t → cond {A = Result Meter Spent} t (Ok (counted 1 mt)) (Err (record { opened = mt.count })) ≡ Err end → (mt.budget < mt.count + 1) × (end.opened ≡ mt.budget)
      go true u h = cc
      go false u h =
          let l = ltb-false mt.count mt.budget u in
          let k : mt.count ≡ end.opened = cc in
          (omega arith, omega arith)
