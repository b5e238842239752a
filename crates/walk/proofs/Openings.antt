-- Opening a node does what the walk of the definitions does there, whatever walks its children.
--
-- In order: step 1 by the answer to its question (`settles_better`, `settles_kept`); steps 1 and 2 and the ties on the price are those on
-- the plans (`settled`, `closed_is`, `noted_is`); what is kept of one node (`keep_met`, `keep_unmet`); the four ways in which opening a
-- node ends (`opened_stopped`, `opened_met`, `opened_shut`, `opened_branch`). Assumes nothing.
use mathlib.Core.Path.{◌≡◌, refl, sym, ◌∙◌, ap, subst}
use mathlib.Core.Bool.{Bool, true, false, cond}
use mathlib.Core.List.{List, [], ◌∷◌, ◌++◌, append-nil}
use Prim.Native.Nat.{ℕ}
use native.Mathlib.Omega.{arith}
use lib.ListN.{length, take, drop, drop_of_length-le}
use Rattle.std.proofs.Common.{Option, Some, None, Result, Ok, Err}
use Rattle.hall.specs.Hall.{Hall, Plan, meets_all}
use Rattle.hall.specs.Order.{less, rank, better}
use Rattle.hall.specs.Walk.{Best, so_far, keep, shut, still, opening}
use Rattle.hall.specs.Ties as hall
use Rattle.hall.specs.Ties.{ties, lower, noted_by, noted, keep_by, keep_all}
use Rattle.hall.proofs.Shut.{shut_none, shut_best}
use Rattle.plans.specs.Runs.{written_in}
use Rattle.plans.proofs.Writing.{write_fits}
use Rattle.walk.specs.declared.meter.Meter.{Meter}
use Rattle.walk.specs.declared.meter.Spent.{Spent}
use Rattle.walk.specs.declared.kept.Price.{Price}
use Rattle.walk.specs.declared.kept.State.{State}
use Rattle.walk.specs.declared.node.Opening.TheVariants.{Leaf}
use Rattle.walk.specs.Meter.{admit}
use Rattle.walk.specs.Rules.{UnmetAt}
use Rattle.walk.specs.Best.{Tally, best_of, Shown, is_better, Settles, is_closed}
use Rattle.walk.specs.Kept.{is_lower, is_equal, Stored, Keeps, Holds}
use Rattle.walk.specs.Ends.{WentOn}
use Rattle.walk.specs.Node.{Node, best_in, alone, Branches, Opens}
use Rattle.walk.proofs.Ends.{admitted, stopped}
use Rattle.walk.proofs.Nodes.{node_met, node_shut, node_branches}

module _ {best : Option Price} {best_plan p : Plan} {price : Price} {answer : Bool} (asked : answer ≡ is_better best best_plan p price) where
  pub settles_better : {best_plan' : Plan} → answer ≡ true → length best_plan ≡ length p → best_plan' ≡ written_in p best_plan → Settles best best_plan p price (Some price) best_plan'
  settles_better yes-so long written =
      let better = sym asked ∙ yes-so in
      let whole = write_fits p best_plan (omega arith) ∙ ap (λ (l : List ℕ). p ++ l) (drop_of_length-le best_plan {i = length p} (omega arith)) ∙ append-nil p in
      record { price_is = rw better refl; written = rw better (written ∙ whole) }

  pub settles_kept : answer ≡ false → Settles best best_plan p price best best_plan
  settles_kept not_so = let worse = sym asked ∙ not_so in record { price_is = rw worse refl; written = rw worse refl }

-- ── steps 1 and 2 ──
module _ (costs : List ℕ) (p best_plan : Plan) (price : Price) (tally : Tally costs p price) where
  closed_is : (h : Hall) → h.costs ≡ costs → (best : Option Price) → Shown costs best best_plan → is_closed best price ≡ shut h p (best_of best best_plan)
  closed_is h same None shown = sym (shut_none h p)
  closed_is h same (Some least) shown = rw (shut_best h p best_plan, same) (simp (tally.cost_is, tally.held_is, shown.cost_is, shown.held_is))

  better_is : {least : Price} → Tally costs best_plan least → less (price.cost ∷ price.held ∷ p) (least.cost ∷ least.held ∷ best_plan) ≡ better costs p best_plan
  unfolding better rank
  better_is t = rw (tally.cost_is, tally.held_is, t.cost_is, t.held_is) refl

  -- the best so far after a plan that meets every rule
  abbrev KeptBest : Option Price → Option Price → Plan → Type 0
  KeptBest best best' best_plan' = (best_of best' best_plan' ≡ so_far (keep costs p (best_of best best_plan))) × Shown costs best' best_plan'

  settled : (best best' : Option Price) (best_plan' : Plan) → Shown costs best best_plan → Settles best best_plan p price best' best_plan' → KeptBest best best' best_plan'
  unfolding keep
  settled None best' best_plan' shown s = rw (s.price_is, s.written) (refl, tally)
  settled (Some least) best' best_plan' shown s = rw (s.price_is, s.written, better_is shown) (go (better costs p best_plan))
    where
      go : (t : Bool) →
          (let best' = cond t (Some price) (Some least) in
          (best_of best' (cond t p best_plan) ≡ so_far (cond t p best_plan)) × Shown costs best' (cond t p best_plan))
      go true = (refl, tally)
      go false = (refl, shown)

  -- the ties so far, after it
  noted_is : (best : Option Price) (ts : List Plan) → Shown costs best best_plan → noted_by (is_lower best price) (is_equal best price) p ts ≡ noted costs p (best_of best best_plan) ts
  unfolding noted noted_by lower ties
  noted_is None ts shown = refl
  noted_is (Some least) ts shown = rw (tally.cost_is, tally.held_is, shown.cost_is, shown.held_is) refl

-- ── what is kept of one node ──
module _ (h : Hall) (k : hall.Kept) (p : Plan) where
  keep_met : meets_all p h.rules ≡ true → keep_all h k (p ∷ []) ≡ record { best = so_far (keep h.costs p k.best); ties = noted h.costs p k.best k.ties }
  unfolding keep_all keep_by
  keep_met e = rw e refl

  keep_unmet : meets_all p h.rules ≡ false → keep_all h k (p ∷ []) ≡ k
  unfolding keep_all keep_by
  keep_unmet e = rw e refl

-- ── opening a node ──
module _ {h : Hall} {p kept : List ℕ} {s : State} {price : Price} (n : Node h p kept s price) {a : Result Meter Spent} (asked : a ≡ admit s.meter) where
  abbrev best_plan : Plan
  best_plan = take (length h.costs) kept

  pub opened_stopped : (end : Spent) (kept' : List ℕ) → a ≡ Err end → Opens h p kept s (Err end) kept'
  unfolding opening still
  opened_stopped end kept' e = let x = stopped s.meter a asked end e n.budgeted in record { over = x.0; count = x.1 }

  module _ {next : Meter} (e : a ≡ Ok next) where
    -- the state with the node counted
    abbrev counted : State
    counted = record { meter = next; best = s.best; ties = s.ties }

    pub opened_met : meets_all p h.rules ≡ true → {s' : State} {kept' : List ℕ} → Keeps p kept counted price s' kept' → Opens h p kept s (Ok (Leaf s')) kept'
    unfolding opening still
    opened_met met {s'} {kept'} x child =
        let same = n.same_plan in
        let settles : Settles s.best best_plan p price s'.best (take (length h.costs) kept') = rw same at x.settles in
        let done = settled h.costs p best_plan price n.tally s.best s'.best (take (length h.costs) kept') n.shown settles in
        let counts = admitted s.meter a asked next e in
        rw (node_met child h p (best_in h s kept) met)
        (record {
          within = counts.0;
          meter = x.meter ∙ counts.1;
          best = done.0;
          shown = done.1;
          most = x.reties.most;
          ties = λ k q. subst (Holds (length h.costs) s' kept') (sym (keep_met h k p met)) (record {
            best = sym (done.0 ∙ ap (λ (b : Best). so_far (keep h.costs p b)) (sym q.best));
            ties = subst (Stored (length h.costs) s'.ties (drop (length h.costs) kept'))
                (noted_is h.costs p best_plan price n.tally s.best k.ties n.shown ∙ ap (λ (b : Best). noted h.costs p b k.ties) (sym q.best))
                ((rw same at x.reties.stores) k.ties q.ties);
          });
        })

    module _ {codes : List ℕ} (u : UnmetAt h p codes) {t : Bool} (closed : t ≡ is_closed s.best price) where
      -- the node alone leaves everything as it was
      went : WentOn h s kept (alone p (best_in h s kept)) counted kept
      unfolding opening still
      went =
          let counts = admitted s.meter a asked next e in
          record {
            within = counts.0;
            meter = counts.1;
            best = refl;
            shown = n.shown;
            most = refl;
            ties = λ k q. subst (Holds (length h.costs) counted kept) (sym (keep_unmet h k p u.unmet)) (record { best = q.best; ties = q.ties });
          }

      shut_is : shut h p (best_in h s kept) ≡ t
      shut_is = sym (closed_is h.costs p best_plan price n.tally h refl s.best n.shown) ∙ sym closed

      pub opened_shut : t ≡ true → Opens h p kept s (Ok (Leaf counted)) kept
      opened_shut so child = rw (node_shut child h p (best_in h s kept) u.unmet (shut_is ∙ so)) went

      pub opened_branch : t ≡ false → Branches h p kept (best_in h s kept) s codes counted kept
      opened_branch so = record { went = went; entries = u.entries; rest = λ child. node_branches child h p (best_in h s kept) u.unmet (shut_is ∙ so) u.first }
