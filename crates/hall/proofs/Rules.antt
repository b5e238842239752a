-- THE LAWS OF `meets_rule`: all that is known of it, in this crate and in those above.
--
--     branch         1. a rule that q meets, and p, which q extends, does not, has a first entry that q holds; its device is
--                       free under p
--     meets_mono     2. a rule that is met stays met
--     held_meets     3. a rule with an entry that is held is met
--     unheld_unmet   4. a rule none of whose entries is held, and which does not name both positions of a device, is not met
--     both_met       5. a rule that names both positions of a device is met
--
-- For the two readings (Readings) and the encoding of crates/rails alone: a rule that does not is met where 01's own wording says so
-- (`one_way_meets`).
-- From 3 and 4: holding a free entry of a rule meets it (`hold_meets`), a rule whose devices are all free and different is not met
-- (`free_unmet`, by `once_one_way`: no device written twice is no rule with both positions), and a rule of one entry is met only
-- by holding it (`single_held`). Another meaning of `meets_rule` is paid for here: no other proof unfolds it but the tables of
-- rows, which compute it. Assumes nothing.
use mathlib.Core.Path.{◌≡◌, refl}
use mathlib.Core.Logic.{◌⊎◌, inl, inr}
use mathlib.Core.Bool.{Bool, true, false, not, ◌&&◌, ◌||◌, false≢true}
use mathlib.Core.List.{[], ◌∷◌}
use Prim.Native.Nat.{ℕ, zero, suc}
use native.Mathlib.Omega.{arith}
use lib.ListN.{get_or}
use lib.Dec.{eqb}
use borrow.Author.Tests.{eqb-true, eq-eqb, not-true}
use Rattle.hall.specs.Hall.{Entry, at1, at0, device, mark, Rule, Plan, holds, is_free, hold, holds_one, opposite, among, names_both, meets_rule}
use Rattle.lists.specs.Lists.{Each, In, first, later}
use Rattle.hall.specs.Bound.{absent, once}
use Rattle.lists.proofs.Cases.{test, both, or_false, or_right, and_both}
use Rattle.lists.proofs.Each.{each_map}
use Rattle.hall.proofs.Plans.{Extends, end, free, same, extends_hold, held_or_free, hold_holds}

-- the first entry of a rule that q holds: its device is free under p, and with it held q still extends the plan
pub data Branch (p q : Plan) : Rule → Type 0 where
  here : {e : Entry} {es : Rule} → is_free p e ≡ true → Extends (hold p e) q → Branch p q (e ∷ es)
  there : {e : Entry} {es : Rule} → holds q e ≡ false → Branch p q es → Branch p q (e ∷ es)

-- what each entry of a rule has, an entry that stands in it has
pub each_in : (P : Entry → Type 0) {e : Entry} {r : Rule} → In e r → Each P r → P e
each_in P first u = u.0
each_in P (later i) u = each_in P i u.1

-- ── rules that name both positions of a device ──
pub same_device : (e : Entry) → device (opposite e) ≡ device e
same_device (at1 v) = refl
same_device (at0 v) = refl

pub in_among : (e : Entry) (r : Rule) → In e r → among e r ≡ true
unfolding among
in_among e [] x' = elim x' [ ]
in_among e (e' ∷ es) first = rw (eq-eqb (device e) (device e) refl, eq-eqb (mark e) (mark e) refl)
in_among e (d ∷ es) (later i) = or_right (eqb (device d) (device e) && eqb (mark d) (mark e)) (among e es) (in_among e es i)

same_entry : (d e : Entry) → device d ≡ device e → mark d ≡ mark e → d ≡ e
same_entry (at1 v) (at1 w) h k = rw h
same_entry (at1 v) (at0 w) h k = absurd (omega arith)
same_entry (at0 v) (at1 w) h k = absurd (omega arith)
same_entry (at0 v) (at0 w) h k = rw h

pub among_in : (e : Entry) (r : Rule) → among e r ≡ true → In e r
unfolding among
among_in e [] h = absurd (false≢true h)
among_in e (d ∷ ds) h = go (test (eqb (device d) (device e) && eqb (mark d) (mark e))) (among_in e ds)
  where
    go : ((eqb (device d) (device e) && eqb (mark d) (mark e)) ≡ true) ⊎ ((eqb (device d) (device e) && eqb (mark d) (mark e)) ≡ false) → (among e ds ≡ true → In e ds) → In e (d ∷ ds)
    go (inl u) ih = let a = and_both (eqb (device d) (device e)) (eqb (mark d) (mark e)) u in rw (same_entry d e (eqb-true _ _ a.0) (eqb-true _ _ a.1)) first
    go (inr u) ih = later (ih (rw u at h))

-- a rule names both positions of a device exactly where an entry and its opposite stand in it
pub both_named : (e : Entry) (r : Rule) → In e r → In (opposite e) r → names_both r ≡ true
unfolding names_both
both_named e [] x'' _ = elim x'' [ ]
both_named e (d ∷ ds) (later i) (later j) = or_right (among (opposite d) ds) (names_both ds) (both_named e ds i j)
both_named (at1 v) (d ∷ ds) first (later j) = rw (in_among (at0 v) ds j)
both_named (at0 v) (d ∷ ds) first (later j) = rw (in_among (at1 v) ds j)
both_named (at1 v) (d ∷ ds) (later i) first = rw (in_among (at1 v) ds i)
both_named (at0 v) (d ∷ ds) (later i) first = rw (in_among (at0 v) ds i)

pub named_both : (r : Rule) → names_both r ≡ true → (e : Entry) × In e r × In (opposite e) r
unfolding names_both
named_both [] h = absurd (false≢true h)
named_both (e ∷ es) h = go (test (among (opposite e) es)) (named_both es)
  where
    go : (among (opposite e) es ≡ true) ⊎ (among (opposite e) es ≡ false) → (names_both es ≡ true → (d : Entry) × In d es × In (opposite d) es) → (d : Entry) × In d (e ∷ es) × In (opposite d) (e ∷ es)
    go (inl u) ih = (e, first, later (among_in (opposite e) es u))
    go (inr u) ih = let f = ih (rw u at h) in (f.0, later f.1, later f.2)

-- law 1: a rule that q meets and p does not has such an entry
one_branch : {p q : Plan} (r : Rule) → Extends p q → holds_one p r ≡ false → holds_one q r ≡ true → Branch p q r
unfolding holds_one
one_branch [] x h k = absurd (false≢true k)
one_branch {p} {q} (e ∷ es) x h k = go (test (holds q e)) (one_branch es x (or_false (holds p e) (holds_one p es) h).1)
  where
    go : (holds q e ≡ true) ⊎ (holds q e ≡ false) → (holds_one q es ≡ true → Branch p q es) → Branch p q (e ∷ es)
    go (inl u) ih = on (held_or_free e x u)
      where
        on : (is_free p e ≡ true) ⊎ (holds p e ≡ true) → Branch p q (e ∷ es)
        on (inl f) = here f (extends_hold e x f u)
        on (inr g) = both g (or_false (holds p e) (holds_one p es) h).0
    go (inr u) ih = there u (ih (rw u at k))

pub branch : {p q : Plan} (r : Rule) → Extends p q → meets_rule p r ≡ false → meets_rule q r ≡ true → Branch p q r
unfolding meets_rule
branch {p} r x h k = let f = or_false (names_both r) (holds_one p r) h in one_branch r x f.1 (rw f.0 at k)

-- law 2: a rule that is met stays met
extends_keeps : {p q : Plan} → Extends p q → (i m : ℕ) → get_or p i 0 ≡ suc m → get_or q i 0 ≡ suc m
extends_keeps end i m h = h
extends_keeps (free e) zero m h = absurd (omega arith)
extends_keeps (free e) (suc i) m h = extends_keeps e i m h
extends_keeps (same e) zero m h = h
extends_keeps (same e) (suc i) m h = extends_keeps e i m h

holds_mono : {p q : Plan} (e : Entry) → Extends p q → holds p e ≡ true → holds q e ≡ true
unfolding holds
holds_mono (at1 v) x h = eq-eqb _ _ (extends_keeps x v 0 (eqb-true _ _ h))
holds_mono (at0 v) x h = eq-eqb _ _ (extends_keeps x v 1 (eqb-true _ _ h))

one_mono : {p q : Plan} (r : Rule) → Extends p q → holds_one p r ≡ true → holds_one q r ≡ true
unfolding holds_one
one_mono [] x h = h
one_mono {p} {q} (e ∷ es) x h = go (test (holds p e)) (one_mono es x)
  where
    go : (holds p e ≡ true) ⊎ (holds p e ≡ false) → (holds_one p es ≡ true → holds_one q es ≡ true) → (holds q e || holds_one q es) ≡ true
    go (inl u) ih = rw (holds_mono e x u)
    go (inr u) ih = or_right (holds q e) (holds_one q es) (ih (rw u at h))

pub meets_mono : {p q : Plan} (r : Rule) → Extends p q → meets_rule p r ≡ true → meets_rule q r ≡ true
unfolding meets_rule
meets_mono {p} {q} r x h = go (names_both r) h
  where
    go : (b : Bool) → (b || holds_one p r) ≡ true → (b || holds_one q r) ≡ true
    go true h = refl
    go false h = one_mono r x h

-- law 3: a rule with an entry that is held is met
one_held : (p : Plan) (e : Entry) (r : Rule) → In e r → holds p e ≡ true → holds_one p r ≡ true
unfolding holds_one
one_held p e [] x'' h = elim x'' [ ]
one_held p e (e' ∷ es) first h = rw h
one_held p e (d ∷ es) (later i) h = or_right (holds p d) (holds_one p es) (one_held p e es i h)

pub held_meets : (p : Plan) (e : Entry) (r : Rule) → In e r → holds p e ≡ true → meets_rule p r ≡ true
unfolding meets_rule
held_meets p e r i h = or_right (names_both r) (holds_one p r) (one_held p e r i h)

-- law 4: a rule none of whose entries is held, and which does not name both positions of a device, is not met
none_held : (p : Plan) (r : Rule) → Each (λ e. holds p e ≡ false) r → holds_one p r ≡ false
unfolding holds_one
none_held p [] u = refl
none_held p (e ∷ es) u = rw u.0 (none_held p es u.1)

pub unheld_unmet : (p : Plan) (r : Rule) → names_both r ≡ false → Each (λ e. holds p e ≡ false) r → meets_rule p r ≡ false
unfolding meets_rule
unheld_unmet p r o u = rw o (none_held p r u)

-- law 5: a rule that names both positions of a device is met
pub both_met : (p : Plan) (r : Rule) → names_both r ≡ true → meets_rule p r ≡ true
unfolding meets_rule
both_met p r o = rw o refl

-- a rule that does not name both positions is met where 01's own wording says so
pub one_way_meets : (p : Plan) (r : Rule) → names_both r ≡ false → meets_rule p r ≡ holds_one p r
unfolding meets_rule
one_way_meets p r o = rw o refl

-- ── what follows from them ──
pub hold_meets : (p : Plan) (e : Entry) (r : Rule) → In e r → is_free p e ≡ true → meets_rule (hold p e) r ≡ true
hold_meets p e r i f = held_meets (hold p e) e r i (hold_holds p e f)

abbrev pub AllFree : Plan → Rule → Type 0
AllFree p r = Each (λ e. is_free p e ≡ true) r

free_zero : (p : Plan) (v : ℕ) → get_or p v 1 ≡ 0 → get_or p v 0 ≡ 0
free_zero [] v h = absurd (omega arith)
free_zero (x ∷ p) zero h = h
free_zero (x ∷ p) (suc v) h = free_zero p v h

free_unheld : (p : Plan) (e : Entry) → is_free p e ≡ true → holds p e ≡ false
unfolding is_free holds
free_unheld p (at1 v) h = rw (free_zero p v (eqb-true _ _ h))
free_unheld p (at0 v) h = rw (free_zero p v (eqb-true _ _ h))

not_among : (e : Entry) (es : Rule) → absent (device e) es ≡ true → among (opposite e) es ≡ false
unfolding absent among
not_among e [] h = refl
not_among e (d ∷ ds) h =
    let a = and_both (not (eqb (device d) (device e))) (absent (device e) ds) h in
    let other : eqb (device d) (device (opposite e)) ≡ false = rw (same_device e) (not-true _ a.0) in
    rw other (not_among e ds a.1)

-- a rule in which no device is written twice does not name both positions of one: so it is for every rule of an equality-case hall
pub once_one_way : (r : Rule) → once r ≡ true → names_both r ≡ false
unfolding once names_both
once_one_way [] o = refl
once_one_way (e ∷ es) o = let a = and_both (absent (device e) es) (once es) o in rw (not_among e es a.0) (once_one_way es a.1)

pub free_unmet : (p : Plan) (r : Rule) → once r ≡ true → AllFree p r → meets_rule p r ≡ false
free_unmet p r o f = unheld_unmet p r (once_one_way r o) (each_map (λ e. is_free p e ≡ true) (λ e. holds p e ≡ false) (free_unheld p) r f)

pub single_held : (p : Plan) (e : Entry) → meets_rule p (e ∷ []) ≡ true → holds p e ≡ true
unfolding names_both among
single_held p e m = go (test (holds p e))
  where
    go : (holds p e ≡ true) ⊎ (holds p e ≡ false) → holds p e ≡ true
    go (inl u) = u
    go (inr u) = both m (unheld_unmet p (e ∷ []) refl (u, tt))
