-- THE CYCLE: what each call is made under, that the measure falls, and how the parts of a walk make the whole.
--
-- In order: the measure (`remaining`, `falls_child`); what a node hands on (`few_held`, `small_child`, `next_node`, `child_node`); the
-- entries of a rule: what is kept from entry to entry (`Partway`, `partway_none`), none is left (`walked_all`), one whose device is held
-- (`passed_held`), one whose child was walked (`Tried`: `tried_spent`, `tried_on`); a node that was opened: stopped, without children, or
-- branching (`walked_stopped`, `walked_leaf`, `branch_..`, `walked_branch`). Assumes nothing.
use mathlib.Core.Path.{◌≡◌, refl, sym, ap, ◌∙◌}
use mathlib.Core.Bool.{true, false}
use mathlib.Core.List.{List, append-nil, append_assoc, map}
use Prim.Native.Nat.{ℕ, suc, ◌+◌, ◌-◌, ◌*◌, ◌/◌, ◌≤◌, ◌<◌}
use native.Mathlib.Omega.{arith}
use lib.ListN.{length, get_or}
use Rattle.std.proofs.Common.{Result, Ok, Err}
use Rattle.lists.specs.Lists.{Each}
use Rattle.hall.specs.Hall.{Hall, Plan, is_free, hold}
use Rattle.hall.specs.Order.{cost_of, held_of}
use Rattle.hall.specs.Walk.{Best, Walked, Walker, still, after, through, opening, node, walk_from}
use Rattle.hall.specs.Ties.{keep_all}
use Rattle.hall.proofs.Plans.{hold_held, hold_length, held_all}
use Rattle.hall.proofs.Sums.{cost_at_most, cost_most}
use Rattle.hall.proofs.Walks.{walks_on}
use Rattle.hall.proofs.Bound.{node_one}
use Rattle.sheet.specs.Coded.{entry_of}
use Rattle.sheet.proofs.Codes.{device_of}
use Rattle.walk.specs.declared.kept.Price.{Price}
use Rattle.walk.specs.declared.kept.State.{State}
use Rattle.walk.specs.declared.meter.Spent.{Spent}
use Rattle.walk.specs.Plan.{release}
use Rattle.walk.specs.Kept.{Roomy}
use Rattle.walk.specs.Ends.{WentOn, IsSpent}
use Rattle.walk.specs.Node.{Node, best_in, alone, Branches}
use Rattle.walk.specs.Walk.{AtEntries, Walks}
use Rattle.walk.proofs.Codes.{release_hold}
use Rattle.walk.proofs.Costs.{hold_cost}
use Rattle.walk.proofs.Unmet.{left_from, left_one, left_none}
use Rattle.walk.proofs.Ends.{still_budgeted, ends_then}
use Rattle.walk.proofs.Nodes.{through_held, through_free}

-- ── the measure: the free devices, and behind them the entries left; a rule has at most 32, and 33 stands for a plan ──
abbrev pub remaining : Plan → ℕ → ℕ
remaining p left = (length p - held_of p) * 34 + left

pub falls_child : (p₀ p held : Plan) (code left t : ℕ) → p ≡ p₀ → is_free p (entry_of code) ≡ true → held ≡ hold p (entry_of code) → remaining p₀ left ≡ t → remaining held 33 < t
falls_child p₀ p held code left t e free holds now =
    let more : held_of held ≡ suc (held_of p) = rw holds (hold_held p (entry_of code) free) in
    let same : length held ≡ length p = ap length holds ∙ hold_length p (entry_of code) in
    let was : length p ≡ length p₀ = ap length e in
    omega (arith, held_all held, ap held_of e)

-- ── what a node hands on ──
module _ {h : Hall} {p kept : List ℕ} {s : State} {price : Price} (n : Node h p kept s price) where
  pub few_held : length h.costs ≤ 200 → price.held ≤ 200
  few_held few = let number = n.tally.held_is in let same = n.same_plan in omega (arith, held_all p)

  -- the cost of a child: 200 devices at 1,000,000,000 and one more
  pub small_child : length h.costs ≤ 200 → Each (λ c. c ≤ 1000000000) h.costs → (d : ℕ) {more : ℕ} → more ≡ get_or h.costs d 0 → price.cost + more ≤ 201000000000
  small_child few cheap d e =
      let sum = n.tally.cost_is in
      omega (arith, cost_most 1000000000 h.costs cheap p, cost_at_most 1000000000 h.costs cheap d)

  -- a room as long, for as many plans
  same_roomy : (next : State) {kept' : List ℕ} → length kept' ≡ length kept → next.ties.most ≡ s.ties.most → Roomy (length h.costs) kept' next.ties
  same_roomy next l e = record { few = rw e n.roomy.few; small = n.roomy.small; long = rw (e, l) n.roomy.long }

  pub next_node : {s₀ : State} {kept₀ : List ℕ} {w : Walked} {next : State} {p' kept' : List ℕ} → p' ≡ p → length kept' ≡ length kept → s.ties.most ≡ s₀.ties.most → WentOn h s₀ kept₀ w next kept' → Node h p' kept' next price
  next_node {next = next} e l f x = record {
    same_plan = ap length e ∙ n.same_plan;
    roomy = same_roomy next l (x.most ∙ sym f);
    tally = rw e n.tally;
    shown = x.shown;
    budgeted = still_budgeted x;
  }

  pub child_node : {p' : Plan} (code : ℕ) {more : ℕ} → is_free p (entry_of code) ≡ true → p' ≡ hold p (entry_of code) → more ≡ get_or h.costs (code / 2) 0
      → Node h p' kept s (record { cost = price.cost + more; held = price.held + 1 })
  child_node {p'} code {more} free e k =
      let a = n.tally.cost_is in
      let b = n.tally.held_is in
      let u : cost_of h.costs p' ≡ cost_of h.costs p + more = rw (e, k, ← device_of code) (hold_cost h.costs p (entry_of code) n.same_plan free) in
      let v : held_of p' ≡ suc (held_of p) = rw e (hold_held p (entry_of code) free) in
      record {
        same_plan = ap length e ∙ hold_length p (entry_of code) ∙ n.same_plan;
        roomy = n.roomy;
        tally = record { cost_is = omega arith; held_is = omega arith };
        shown = n.shown;
        budgeted = n.budgeted;
      }

-- ── the entries of a rule ──
-- parts of a walk are the same however their nodes are added up and their plans are put one behind the other
same_walked : {n k : ℕ} {b : Best} {ps qs : List Plan} → n ≡ k → ps ≡ qs → ◌≡◌ {A = Walked} (record { opened = n; best = b; plans = ps }) (record { opened = k; best = b; plans = qs })
same_walked e f = rw (e, f) refl

-- the loop's invariant: of a walk through the entries of these codes, which began with the plan p₀, with kept₀ in the room and the state
-- s₀, `part` is done and the entries from code i on are left; the plan is as it was
pub record Partway (h : Hall) (child : Walker) (codes p₀ kept₀ : List ℕ) (s₀ : State) (price : Price) (i : ℕ) (p kept : List ℕ) (s : State) : Type 0 where
  pub as_was : p ≡ p₀
  pub same_long : length kept ≡ length kept₀
  pub node : Node h p kept s price
  pub part : Walked
  pub went : WentOn h s₀ kept₀ part s kept
  pub rest : through child p₀ (map entry_of codes) (best_in h s₀ kept₀) ≡ after part (through child p₀ (left_from i codes) part.best)

pub partway_none : {h : Hall} (child : Walker) (codes : List ℕ) {p kept : List ℕ} {s : State} {price : Price} → Node h p kept s price → Partway h child codes p kept s price 0 p kept s
unfolding still after keep_all
partway_none {h} child codes {kept = kept} {s} n =
    let budgeted = n.budgeted in
    record {
      as_was = refl;
      same_long = refl;
      node = n;
      part = still (best_in h s kept);
      went = record {
        within = omega arith;
        meter = ap (λ (k : ℕ). record { budget = s.meter.budget; count = k }) (omega arith);
        best = refl;
        shown = n.shown;
        most = refl;
        ties = λ k q. q;
      };
      rest = same_walked (omega arith) refl;
    }

module _ {h : Hall} {child : Walker} {codes p₀ kept₀ : List ℕ} {s₀ : State} {price : Price} {i : ℕ} {p kept : List ℕ} {s : State} (x : Partway h child codes p₀ kept₀ s₀ price i p kept s) where
  abbrev all : Walked
  all = through child p₀ (map entry_of codes) (best_in h s₀ kept₀)

  pub walked_all : length codes ≤ i → Walks h s₀ kept₀ all p₀ p (Ok s) kept
  unfolding through still after
  walked_all l =
      let e : all ≡ x.part = x.rest ∙ rw (left_none codes i l) (same_walked (omega arith) (append-nil x.part.plans)) in
      rw e (record { same = x.as_was; ends = x.went })

  -- an entry whose device is held opens nothing
  pub passed_held : i < length codes → is_free p (entry_of (get_or codes i 0)) ≡ false → Partway h child codes p₀ kept₀ s₀ price (i + 1) p kept s
  passed_held more taken = record {
    as_was = x.as_was;
    same_long = x.same_long;
    node = x.node;
    part = x.part;
    went = x.went;
    rest = x.rest ∙ ap (after x.part) (rw (left_one codes i more) (through_held child p₀ (entry_of (get_or codes i 0)) _ _ (rw x.as_was at taken)));
  }

-- an entry whose device is free: it was held, the child walked, and the device released
pub record Tried (h : Hall) (child : Walker) (p kept : List ℕ) (s : State) (code : ℕ) (held held' back kept' : List ℕ) (went : Result State Spent) : Type 0 where
  pub free : is_free p (entry_of code) ≡ true
  pub holds : held ≡ hold p (entry_of code)
  pub walked : Walks h s kept (child held (best_in h s kept)) held held' went kept'
  pub releases : back ≡ release held' (entry_of code)

module _ {h : Hall} {child : Walker} {codes p₀ kept₀ : List ℕ} {s₀ : State} {price : Price} {i : ℕ} {p kept : List ℕ} {s : State} {held held' back kept' : List ℕ} {went : Result State Spent}
    (x : Partway h child codes p₀ kept₀ s₀ price i p kept s) (more : i < length codes) (y : Tried h child p kept s (get_or codes i 0) held held' back kept' went) where
  abbrev code : ℕ
  code = get_or codes i 0

  back_as_was : back ≡ p
  back_as_was = y.releases ∙ rw (y.walked.same, y.holds) (release_hold p (entry_of code) y.free)

  abbrev child_walk : Walked
  child_walk = child held (best_in h s kept)

  abbrev tail : Walked
  tail = through child p₀ (left_from (i + 1) codes) child_walk.best

  parts : all x ≡ after x.part (after child_walk tail)
  parts =
      x.rest
      ∙ ap (after x.part)
      (rw (left_one codes i more, ← x.went.best, y.holds, x.as_was) (through_free child p₀ (entry_of code) _ (best_in h s kept) (rw x.as_was at y.free)))

  pub tried_spent : (end : Spent) → went ≡ Err end → Walks h s₀ kept₀ (all x) p₀ back (Err end) kept'
  unfolding after
  tried_spent end f =
      let o : IsSpent s₀.meter (after x.part child_walk) end = ends_then x.went child_walk (Err end) kept' (rw f at y.walked.ends) in
      let u = o.over in
      rw parts (record { same = back_as_was ∙ x.as_was; ends = record { over = omega arith; count = o.count } })

  pub tried_on : (next : State) → went ≡ Ok next → length kept' ≡ length kept → Partway h child codes p₀ kept₀ s₀ price (i + 1) back kept' next
  unfolding after
  tried_on next f l =
      let on : WentOn h s kept child_walk next kept' = rw f at y.walked.ends in
      record {
        as_was = back_as_was ∙ x.as_was;
        same_long = l ∙ x.same_long;
        node = next_node x.node back_as_was l refl on;
        part = after x.part child_walk;
        went = ends_then x.went child_walk (Ok next) kept' on;
        rest = parts ∙ same_walked (omega arith) (sym (append_assoc x.part.plans child_walk.plans tail.plans));
      }

-- ── a node that was opened ──
module _ {h : Hall} {p kept : List ℕ} {s : State} {price : Price} (n : Node h p kept s price) where
  abbrev b : Best
  b = best_in h s kept

  pub walked_stopped : {end : Spent} (kept' : List ℕ) → IsSpent s.meter (alone p b) end → Walks h s kept (walk_from h p b) p p (Err end) kept'
  unfolding opening still
  walked_stopped kept' a =
      let u = a.over in
      let w = node_one (walk_from h) h p b in
      rw (walks_on h p b) (record { same = refl; ends = record { over = omega arith; count = a.count } })

  pub walked_leaf : {next : State} {kept' : List ℕ} → WentOn h s kept (node (walk_from h) h p b) next kept' → Walks h s kept (walk_from h p b) p p (Ok next) kept'
  walked_leaf a = rw (walks_on h p b) (record { same = refl; ends = a })

  module _ {codes : List ℕ} {next : State} {kept' : List ℕ} (x : Branches h p kept b s codes next kept') where
    pub branch_falls : {t : ℕ} → remaining p 33 ≡ t → remaining p (length codes) < t
    branch_falls now = let l = x.entries.narrow in omega arith

    pub branch_entries : length kept' ≡ length kept → AtEntries h codes p kept' next price
    branch_entries l = record { node = next_node n refl l refl x.went; entries = x.entries }

    pub walked_branch : {p' : Plan} {went : Result State Spent} {kept'' : List ℕ} → Walks h next kept' (through (walk_from h) p (map entry_of codes) (best_in h next kept')) p p' went kept'' → Walks h s kept (walk_from h p b) p p' went kept''
    unfolding opening still
    walked_branch {went = went} {kept''} y =
        rw (walks_on h p b, x.rest (walk_from h)) (record { same = y.same; ends = ends_then x.went _ went kept'' (rw x.went.best at y.ends) })
