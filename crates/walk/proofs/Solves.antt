-- The walk from the first node, how it ends, and what is handed on.
--
-- In order: the first node is a node of the walk (`first_node`), and its walk is the hall's; what is found, in numbers and in the room, in
-- the four ways in which it ends (`finds_spent`, `finds_none`, `finds_best`, `finds_ties`). Assumes nothing.
use mathlib.Core.Path.{◌≡◌, refl, sym, ap, ◌∙◌}
use mathlib.Core.List.{List, [], ◌∷◌, ◌++◌, append-nil}
use Prim.Native.Nat.{ℕ, suc, ◌+◌, ◌-◌, ◌*◌, ◌≤◌, zero-le, min}
use native.Mathlib.Nat.{mul-le-mul_right}
use native.Mathlib.Omega.{arith}
use lib.ListN.{length, take, drop, replicate, length-replicate, length-take}
use lib.Seq.{length-take-le, take-append_seam}
use Rattle.std.proofs.Common.{Result, Ok, Err, Some, None}
use Rattle.std.proofs.lemmas.List.{take-replicate}
use Rattle.lists.proofs.Each.{each_take}
use Rattle.hall.specs.Hall.{Hall, Plan}
use Rattle.hall.specs.Walk.{none_yet, so_far, start, walk_hall, walk_from}
use Rattle.hall.specs.Answer.{least, none, spent, within}
use Rattle.hall.specs.Ties.{nothing_kept, joined}
use Rattle.hall.proofs.Plans.{start_held}
use Rattle.hall.proofs.Budget.{over, enough}
use Rattle.plans.specs.Runs.{written_in}
use Rattle.plans.proofs.Runs.{joined_length}
use Rattle.walk.specs.declared.meter.Meter.{Meter}
use Rattle.walk.specs.declared.meter.Spent.{Spent}
use Rattle.walk.specs.declared.kept.Price.{Price}
use Rattle.walk.specs.declared.kept.State.{State}
use Rattle.walk.specs.declared.solve.Asked.{Asked}
use Rattle.walk.specs.declared.solve.Asked.TheVariants.{Best, Ties}
use Rattle.walk.specs.declared.Outcome.TheVariants as outcome
use Rattle.walk.specs.Contract.{found_of, kept_ties, Finds}
use Rattle.walk.specs.Kept.{Stored, Holds}
use Rattle.walk.specs.Ends.{WentOn, IsSpent, Ends}
use Rattle.walk.specs.Node.{Node}
use Rattle.walk.specs.Walk.{Walks}
use Rattle.walk.specs.Solve.{most_of, begun, Spacious}
use Rattle.walk.proofs.Costs.{start_cost}
use Rattle.walk.proofs.Noting.{nothing_noted}

-- ── the first node ──
few_asked : (a : Asked) → most_of a ≤ 256
few_asked Best = omega arith
few_asked Ties = omega arith

module _ (h : Hall) (few : length h.costs ≤ 200) (room : List ℕ) (blank : room ≡ replicate 200 0) where
  free_front : take (length h.costs) room ≡ replicate (length h.costs) 0
  free_front = ap (take (length h.costs)) blank ∙ take-replicate (length h.costs) 200 0 few

  pub first_node : (a : Asked) (budget most : ℕ) (kept : List ℕ) → most ≡ most_of a → Spacious a (length kept) → Node h (take (length h.costs) room) kept (begun budget most) (record { cost = 0; held = 0 })
  first_node a budget most kept e long = let fits = few_asked a in record {
    same_plan = ap length free_front ∙ length-replicate (length h.costs) 0;
    roomy = record { few = omega arith; small = few; long = omega (arith, mul-le-mul_right {m = length h.costs} {n = 200} most few) };
    tally = rw free_front (record { cost_is = sym (start_cost h.costs (length h.costs)); held_is = sym (start_held (length h.costs)) });
    shown = tt;
    budgeted = zero-le;
  }

  module _ {budget most : ℕ} {kept p' : List ℕ} {r : Result State Spent} {kept' : List ℕ} (x : Walks h (begun budget most) kept (walk_from h (take (length h.costs) room) none_yet) (take (length h.costs) room) p' r kept') where
    ending : Ends h (begun budget most) kept (walk_hall h) r kept'
    unfolding walk_hall start
    ending = rw free_front at x.ends

    pub finds_spent : (f : Plan → List Plan) (before : List ℕ) {end : Spent} → r ≡ Err end → Finds (found_of f (within h budget (walk_hall h))) before (Ok (outcome.Spent end.opened)) before
    finds_spent f before {end} e =
        let o : IsSpent (begun budget most).meter (walk_hall h) end = rw e at ending in
        let u = o.over in
        let is : within h budget (walk_hall h) ≡ spent end.opened = over h budget (walk_hall h) (omega arith) ∙ ap spent (sym o.count) in
        rw is (record { says = refl; room = refl })

    module _ (last : State) (e : r ≡ Ok last) where
      went_on : WentOn h (begun budget most) kept (walk_hall h) last kept'
      went_on = rw e at ending

      count_is : last.meter.count ≡ (walk_hall h).opened
      count_is = ap (λ (mt : Meter). mt.count) went_on.meter ∙ omega arith

      pub finds_none : (f : Plan → List Plan) (before : List ℕ) → last.best ≡ None → Finds (found_of f (within h budget (walk_hall h))) before (Ok (outcome.None last.meter.count)) before
      finds_none f before g =
          let u = went_on.within in
          let b : (walk_hall h).best ≡ none_yet = sym went_on.best ∙ rw g refl in
          let is : within h budget (walk_hall h) ≡ none last.meter.count = enough h budget (walk_hall h) (omega arith) ∙ rw (b, count_is) refl in
          rw is (record { says = refl; room = refl })

      module _ {price : Price} (g : last.best ≡ Some price) (long : length h.costs ≤ length kept') where
        abbrev n : ℕ
        n = length h.costs

        least_is : within h budget (walk_hall h) ≡ least price.cost price.held last.meter.count (take n kept')
        least_is =
            let u = went_on.within in
            let b : (walk_hall h).best ≡ so_far (take n kept') = sym went_on.best ∙ rw g refl in
            let t = rw g at went_on.shown in
            enough h budget (walk_hall h) (omega arith) ∙ rw (b, count_is, t.cost_is, t.held_is) refl

        size_is : length (take n kept') ≡ n
        size_is = length-take-le n kept' long

        pub finds_best : (before : List ℕ) {after : List ℕ} → after ≡ written_in (take n kept') before → Finds (found_of (λ p. p ∷ []) (within h budget (walk_hall h))) before (Ok (outcome.Best n price.cost price.held 1 last.meter.count)) after
        unfolding joined
        finds_best before w = rw least_is (record { says = rw size_is refl; room = w ∙ ap (λ (l : List ℕ). written_in l before) (sym (append-nil (take n kept'))) })

        -- nothing is kept at first
        holds_nothing : Holds n (begun budget most) kept nothing_kept
        holds_nothing = record { best = refl; ties = nothing_noted n (drop n kept) most }

        stored : Stored n last.ties (drop n kept') (kept_ties h)
        stored = (went_on.ties nothing_kept holds_nothing).ties

        pub finds_ties : most ≡ 256 → (before : List ℕ) {many : ℕ} → many ≡ min last.ties.count 256 → {after : List ℕ} → after ≡ written_in (take (n + many * n - n) (drop n kept')) before
            → Finds (found_of (λ p. kept_ties h) (within h budget (walk_hall h))) before (Ok (outcome.Best n price.cost price.held last.ties.count last.meter.count)) after
        finds_ties is before {many} f w =
            let ts = kept_ties h in
            let s = stored in
            let same : last.ties.most ≡ 256 = went_on.most ∙ is in
            let count : last.ties.count ≡ min 257 (length ts) = s.count ∙ ap (λ (k : ℕ). min (suc k) (length ts)) same in
            let few_ties : many ≡ length (take 256 ts) = omega (arith, length-take 256 ts) in
            let all : many * n ≡ length (joined (take 256 ts)) = ap (λ (k : ℕ). k * n) few_ties ∙ sym (joined_length n (take 256 ts) (each_take (λ t. length t ≡ n) 256 ts s.sizes)) in
            let size : n + many * n - n ≡ length (joined (take 256 ts)) = omega arith in
            let front : drop n kept' ≡ joined (take 256 ts) ++ s.rest = s.front ∙ ap (λ (k : ℕ). joined (take k ts) ++ s.rest) same in
            let handed : take (n + many * n - n) (drop n kept') ≡ joined (take 256 ts) = rw (size, front) (take-append_seam (joined (take 256 ts)) s.rest) in
            rw least_is (record { says = rw (size_is, count) refl; room = w ∙ ap (λ (l : List ℕ). written_in l before) handed })
