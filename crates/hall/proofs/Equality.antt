-- Demand 3's equality: where no device is written twice, all rules are equally long and all costs are equal, the walk opens
-- exactly 1 + k + ... + k^d nodes.
--
-- The argument: at every node each rule is met or wholly free, and as many devices are held as rules are met (`State`). So the
-- first unmet rule opens all of its k children, and each leaves one rule less. Nothing is closed: every best so far holds a
-- device for each rule (`Full`), an open node fewer, and equal costs make it no dearer (`not_shut`). With k = 0 the bound is 1
-- and needs no such argument. The claims: `opens_exactly`, and with `opens_most` all of demand 3's bound: `opens_bounded`. Assumes
-- nothing.
use mathlib.Core.Path.{◌≡◌, refl, sym, ◌∙◌, ap, subst}
use mathlib.Core.Bool.{true}
use mathlib.Core.List.{[], ◌∷◌}
use Prim.Native.Nat.{ℕ, zero, suc, ◌+◌, ◌*◌, ◌-◌, ◌≤◌, ◌<◌, min}
use native.Mathlib.Nat.{mul-le-mul_right, suc-mul, zero-mul}
use native.Mathlib.Omega.{arith}
use lib.ListN.{length, replicate}
use Rattle.lists.specs.Lists.{In, first, later}
use Rattle.hall.specs.Hall.{Entry, Rule, Hall, Plan, is_free, hold, first_unmet}
use Rattle.hall.specs.Order.{if_held, cost_of, held_of}
use Rattle.hall.specs.Walk.{Best, none_yet, so_far, Walker, still, after, entry_by, through, opening, node_by, node, walk, walk_from, start, walk_hall}
use Rattle.hall.specs.Ranges.{HallInRange}
use Rattle.hall.specs.Bound.{widest, depth, power_sum, bound_of, EqualityCase, Bounded}
use Rattle.hall.proofs.Plans.{hold_held, hold_length, held_all, start_plan, start_held}
use Rattle.hall.proofs.Rules.{AllFree}
use Rattle.hall.proofs.Unmet.{unmet}
use Rattle.hall.proofs.Shut.{All, not_shut}
use Rattle.hall.proofs.Walks.{child_fuel, no_child}
use Rattle.hall.proofs.Least.{keep_all_lem}
use Rattle.hall.proofs.Bound.{horner, opens_one, opens_most}
use Rattle.hall.proofs.Apart.{Alone, apart_alone, Fit, start_fit, fit_hold, first_free, none_unmet}

-- with equal costs the cost is the held number's multiple
cost_level : (c n : ℕ) (p : Plan) → length p ≤ n → cost_of (replicate n c) p ≡ held_of p * c
unfolding cost_of held_of if_held
cost_level c zero [] l = omega arith
cost_level c zero (x ∷ p) l = absurd (omega arith)
cost_level c (suc n) [] l = omega arith
cost_level c (suc n) (zero ∷ p) l = omega (arith, cost_level c n p (omega arith))
cost_level c (suc n) (suc x ∷ p) l = omega (arith, cost_level c n p (omega arith))

-- the entries of one node, each of which opens x
through_exact : (I : Best → Type 0) (c : Walker) (p : Plan) (x : ℕ) (es : Rule) → AllFree p es
    → ((e : Entry) (b : Best) → In e es → is_free p e ≡ true → I b → ((c (hold p e) b).opened ≡ x) × I (c (hold p e) b).best)
    → (b : Best) → I b → ((through c p es b).opened ≡ length es * x) × I (through c p es b).best
unfolding through entry_by after still
through_exact I c p x [] f k b i = (omega (arith, zero-mul x), i)
through_exact I c p x (e ∷ es) f k b i =
    let u = k e b first f.0 i in
    let v = through_exact I c p x es f.1 (λ d b j. k d b (later j)) (c (hold p e) b).best u.1 in
    rw f.0 (omega (arith, suc-mul (length es) x), v.1)

module _ (h : Hall) (q : EqualityCase h) (o : Alone h.rules) where
  abbrev k : ℕ
  k = widest h.rules

  -- every best so far holds a device for each rule
  abbrev Full : Plan → Type 0
  Full r = (length r ≡ length h.costs) × (held_of r ≡ length h.rules)

  record State (p : Plan) : Type 0 where
    size : length p ≡ length h.costs
    fit : Fit p h.rules
    sum : held_of p + unmet p h.rules ≡ length h.rules

  state_hold : (p : Plan) (e : Entry) → State p → In e (first_unmet p h.rules) → is_free p e ≡ true → State (hold p e) × (suc (unmet (hold p e) h.rules) ≡ unmet p h.rules)
  state_hold p e s i f =
      let v = fit_hold p e f h.rules o s.fit i in
      (record { size = hold_length p e ∙ s.size; fit = v.0; sum = let a = s.sum in let b = v.1 in omega (arith, hold_held p e f) }, v.1)

  cost_is : (p : Plan) → length p ≡ length h.costs → cost_of h.costs p ≡ held_of p * q.cost
  cost_is p l = subst (λ cs. cost_of cs p ≡ held_of p * q.cost) (sym q.level) (cost_level q.cost (length h.costs) p (omega arith))

  -- a plan that holds fewer devices than there are rules costs no more than a full one
  no_dearer : (p : Plan) (b : Best) → length p ≡ length h.costs → held_of p < length h.rules → All Full b → All (λ r. (cost_of h.costs p ≤ cost_of h.costs r) × (held_of p < held_of r)) b
  no_dearer p none_yet l u i = tt
  no_dearer p (so_far b) l u i = (rw (cost_is p l, cost_is b i.0) (mul-le-mul_right q.cost (omega arith)), omega arith)

  node_exact : (c : Walker) (p : Plan) → State p
      → ((e : Entry) (b : Best) → is_free p e ≡ true → State (hold p e) → All Full b → ((c (hold p e) b).opened ≡ power_sum k (unmet (hold p e) h.rules)) × All Full (c (hold p e) b).best)
      → (b : Best) → All Full b → ((node c h p b).opened ≡ power_sum k (unmet p h.rules)) × All Full (node c h p b).best
  unfolding node node_by opening still power_sum
  node_exact c p s ih b i = go (unmet p h.rules) refl
    where
      go : (d : ℕ) → unmet p h.rules ≡ d → ((node c h p b).opened ≡ power_sum k d) × All Full (node c h p b).best
      go zero u = rw (none_unmet p h.rules u) (refl, keep_all_lem Full h.costs p b (s.size, let a = s.sum in omega arith) i)
      go (suc d) u =
          let f = first_free p k h.rules o s.fit q.wide d u in
          let t = through_exact (All Full) c p (power_sum k d) (first_unmet p h.rules) f.0 (child d u) b i in
          let a = s.sum in
          rw (f.2, not_shut h p b (no_dearer p b s.size (omega arith) i)) (ap suc (t.0 ∙ ap (λ (w : ℕ). w * power_sum k d) f.1) ∙ sym (horner k d), t.1)
        where
          child : (d : ℕ) → unmet p h.rules ≡ suc d → (e : Entry) (b : Best) → In e (first_unmet p h.rules) → is_free p e ≡ true → All Full b → ((c (hold p e) b).opened ≡ power_sum k d) × All Full (c (hold p e) b).best
          child d u e b j f i =
              let w = state_hold p e s j f in
              let r = ih e b f w.0 i in
              let v : unmet (hold p e) h.rules ≡ d = let y = w.1 in omega arith in
              (r.0 ∙ ap (power_sum k) v, r.1)

  walk_exact : (n : ℕ) (p : Plan) → length p ≤ n + held_of p → State p → (b : Best) → All Full b → ((walk h n p b).opened ≡ power_sum k (unmet p h.rules)) × All Full (walk h n p b).best
  unfolding walk
  walk_exact zero p l s = node_exact _ p s (λ e b f t i. no_child p e l f)
  walk_exact (suc n) p l s = node_exact _ p s (λ e b f t i. walk_exact n (hold p e) (child_fuel n p e l f) t b i)

  -- a rule with an entry, left unmet, is one more device to hold: so there are no more rules than devices
  no_more_rules : (j : ℕ) → k ≡ suc j → (d : ℕ) (p : Plan) → State p → unmet p h.rules ≡ d → length h.rules ≤ length h.costs
  no_more_rules j kj zero p s u = let a = s.sum in let l = s.size in omega (arith, held_all p)
  no_more_rules j kj (suc d) p s u = let f = first_free p k h.rules o s.fit q.wide d u in go (first_unmet p h.rules) f.1 f.0 (λ e i g. state_hold p e s i g) (no_more_rules j kj d)
    where
      go : (r : Rule) → length r ≡ k → AllFree p r → ((e : Entry) → In e r → is_free p e ≡ true → State (hold p e) × (suc (unmet (hold p e) h.rules) ≡ unmet p h.rules))
          → ((p : Plan) → State p → unmet p h.rules ≡ d → length h.rules ≤ length h.costs) → length h.rules ≤ length h.costs
      go [] l f c ih = absurd (omega arith)
      go (e ∷ es) l f c ih = let t = c e first f.0 in let y = t.1 in ih (hold p e) t.0 (omega arith)

-- ── width 0: the bound itself is 1 ──
powers_zero : (d : ℕ) → power_sum 0 d ≡ 1
unfolding power_sum
powers_zero zero = refl
powers_zero (suc d) = horner 0 d ∙ omega (arith, zero-mul (power_sum 0 d))

exactly_zero : (h : Hall) → widest h.rules ≡ 0 → (walk_hall h).opened ≡ bound_of h
exactly_zero h e =
    let b = rw (e, powers_zero) at (opens_most h) in
    rw (e, powers_zero) (omega (arith, opens_one h))

-- ── a wider rule ──
exactly_more : (h : Hall) (j : ℕ) → widest h.rules ≡ suc j → HallInRange h → EqualityCase h → (walk_hall h).opened ≡ bound_of h
unfolding walk_hall walk_from start
exactly_more h j kj r q = walked.0 ∙ reached
  where
    n : ℕ
    n = length h.costs

    o : Alone h.rules
    o = apart_alone h.rules q.apart

    fit : Fit (start h) h.rules × (unmet (start h) h.rules ≡ length h.rules)
    fit = start_fit n h.rules o r.good

    state : State h q o (start h)
    state = let u = fit.1 in record { size = (start_plan h).size; fit = fit.0; sum = rw (start_held n) (omega arith) }

    free : ℕ
    free = length (start h) - held_of (start h)

    walked : ((walk h free (start h) none_yet).opened ≡ power_sum (widest h.rules) (unmet (start h) h.rules)) × All (Full h q o) (walk h free (start h) none_yet).best
    walked = walk_exact h q o free (start h) (omega arith) state none_yet tt

    reached : power_sum (widest h.rules) (unmet (start h) h.rules) ≡ power_sum (widest h.rules) (depth h)
    reached =
        let l = no_more_rules h q o j kj (unmet (start h) h.rules) (start h) state refl in
        let e : min n (length h.rules) ≡ length h.rules = omega arith in
        rw (e, fit.1)

-- ── the claims ──
pub opens_exactly : (h : Hall) → HallInRange h → EqualityCase h → (walk_hall h).opened ≡ bound_of h
opens_exactly h r q = go (widest h.rules) refl
  where
    go : (k : ℕ) → widest h.rules ≡ k → (walk_hall h).opened ≡ bound_of h
    go zero e = exactly_zero h e
    go (suc j) e = exactly_more h j e r q

pub opens_bounded : (h : Hall) → HallInRange h → Bounded h (walk_hall h).opened
opens_bounded h r = record { most = opens_most h; equal = opens_exactly h r }
