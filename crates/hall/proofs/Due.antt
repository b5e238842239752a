-- The decoder goes along what the words are due to be.
--
-- In order: a word at a place, and what is due after it; how far a sheet is right (`RightUpTo`) and where it stops (`Stopped`);
-- from where something is due, each reader, from a word to a hall, either leads to where the next is due or stops (`Tracks`,
-- `hall_tracks`); no sheet is stopped in two ways (`stopped_only`), or stopped and whole (`whole_not_stopped`). Assumes nothing.
use mathlib.Core.Path.{◌≡◌, refl, sym, ◌∙◌, ap, subst}
use mathlib.Core.Logic.{◌⊎◌, inl, inr, ◌≢◌}
use mathlib.Core.Bool.{Bool, true, false}
use mathlib.Core.List.{List, [], ◌∷◌}
use mathlib.Core.Option.{Option, none, some}
use Prim.Native.Nat.{ℕ, zero, suc, ◌-◌, ◌≤◌, ◌<◌, zero-le, suc-le-suc}
use native.Mathlib.Omega.{arith}
use lib.ListN.{length, get_or, take, get_elem?}
use lib.Seq.{take-length}
use lib.IntN.{ℤ, pos, negsuc}
use lib.Dec.{leb, ltb}
use borrow.Author.Tests.{le-leb}
use Rattle.hall.specs.Hall.{Entry}
use Rattle.hall.specs.Reading.{Fault, too_short, bad_device_count, bad_rule_count, bad_width, Read, bad, got, Reader, then, ◌>>=◌, as_read, at_word, word, only_if, up_to, as_entry, times, cost, entry, rule, all_rules, hall}
use Rattle.hall.specs.Due.{Due, device_count, device_cost, rule_count, rule_width, rule_entry, nothing_more, costs_due, rules_due, entries_due, next, due_after, due, from_zero_to, in_range_of, fault_for, right_at, RightBefore, FirstWrong, EndsTooSoon}
use Rattle.lists.proofs.Cases.{both, Tri, below, level, above, tri}

-- ── places ──
word_at : (ws : List ℤ) (i : ℕ) (w : ℤ) → get_elem? ws i ≡ some w → (i < length ws) × (get_or ws i (pos 0) ≡ w)
word_at [] i w e = absurd (let z : ◌≡◌ {A = ℕ} 0 1 = cc in omega arith)
word_at (x ∷ ws) zero w e = (suc-le-suc zero-le, cc)
word_at (x ∷ ws) (suc i) w e = let a = word_at ws i w e in (suc-le-suc a.0, a.1)

no_word : (ws : List ℤ) (i : ℕ) → get_elem? ws i ≡ none → length ws ≤ i
no_word [] i e = zero-le
no_word (x ∷ ws) zero e = absurd (let z : ◌≡◌ {A = ℕ} 0 1 = cc in omega arith)
no_word (x ∷ ws) (suc i) e = suc-le-suc (no_word ws i e)

due_step : (d : Due) (ws : List ℤ) (i : ℕ) → i < length ws → due_after d (take (suc i) ws) ≡ next (due_after d (take i ws)) (get_or ws i (pos 0))
unfolding due_after
due_step d [] i l = absurd (omega arith)
due_step d (w ∷ ws) zero l = refl
due_step d (w ∷ ws) (suc i) l = due_step (next d w) ws i (omega arith)

-- ── how far the sheet is right, and where it stops ──
pub record RightUpTo (ws : List ℤ) (i : ℕ) (d : Due) : Type 0 where
  pub short : length ws ≤ 16384
  pub inside : i ≤ length ws
  pub right : RightBefore ws i
  pub state : due (take i ws) ≡ d

abbrev pub Stopped : List ℤ → Fault → ℕ → Type 0
Stopped ws f i = (FirstWrong f i ws × (due (take i ws) ≢ nothing_more)) ⊎ ((f ≡ too_short) × EndsTooSoon i ws)

abbrev pub Follows : {A : Type 0} → List ℤ → (A → Due) → Read A → Type 0
Follows ws k (bad f i) = Stopped ws f i
Follows ws k (got a j) = RightUpTo ws j (k a)

-- from where d is due, the reader leads to where `k` of its value is due
abbrev pub Tracks : {A : Type 0} → Reader A → Due → (A → Due) → Type 0
Tracks r d k = (ws : List ℤ) (i : ℕ) → RightUpTo ws i d → Follows ws k (r ws i)

then_tracks : {A B : Type 0} (r : Reader A) (s : A → Reader B) (d : Due) (k : A → Due) (l : B → Due) → Tracks r d k → ((a : A) → Tracks (s a) (k a) l) → Tracks (r >>= s) d l
then_tracks {A} r s d k l t u ws i at = go (r ws i) (t ws i at)
  where
    go : (x : Read A) → Follows ws k x → Follows ws l (then x s ws)
    go (bad f p) h = h
    go (got a j) h = u a ws j h

-- one word: its reader and the range of what is due agree
abbrev Agrees : {A : Type 0} → Due → (A → Due) → ℤ → Option A → Type 0
Agrees d k w none = in_range_of d w ≡ false
Agrees d k w (some a) = (in_range_of d w ≡ true) × (next d w ≡ k a)

-- the word at a place that was reached, where it is right
one_right : (ws : List ℤ) (i : ℕ) (d : Due) (w : ℤ) (d' : Due) → RightUpTo ws i d → get_elem? ws i ≡ some w → in_range_of d w ≡ true → next d w ≡ d' → RightUpTo ws (suc i) d'
one_right ws i d w d' r e t n =
    let a = word_at ws i w e in
    record { short = r.short; inside = a.0; right = λ j l. go j (tri j i) l; state = due_step device_count ws i a.0 ∙ rw (r.state, a.1) n }
  where
    go : (j : ℕ) → Tri j i → j < suc i → right_at ws j ≡ true
    go j (below u) l = r.right j u
    go j (level u) l = rw (u, r.state, (word_at ws i w e).1) t
    go j (above u) l = absurd (omega arith)

-- something is due
abbrev ends : Due → ℕ
ends device_count = 0
ends (device_cost n left) = 0
ends (rule_count n) = 0
ends (rule_width n rule left) = 0
ends (rule_entry n rule rules left) = 0
ends nothing_more = 1

still_due : (d : Due) → ends d ≡ 0 → d ≢ nothing_more
still_due d n e = let z : ends d ≡ 1 = ap ends e in omega arith

word_tracks : {A : Type 0} (value : ℤ → Option A) (d : Due) (k : A → Due) → ends d ≡ 0 → ((w : ℤ) → Agrees d k w (value w)) → Tracks (word (fault_for d) value) d k
word_tracks {A} value d k more agrees ws i r = go (get_elem? ws i) refl
  where
    n : d ≢ nothing_more
    n = still_due d more

    one : (w : ℤ) (x : Option A) → get_elem? ws i ≡ some w → Agrees d k w x → Follows ws k (as_read (fault_for d) i x)
    one w none e a = let p = word_at ws i w e in inl (record { short = r.short; inside = p.0; before = r.right; wrong = rw (r.state, p.1) a; kind = ap fault_for r.state }, λ e. n (sym r.state ∙ e))
    one w (some b) e a = one_right ws i d w (k b) r e a.0 a.1

    go : (x : Option ℤ) → get_elem? ws i ≡ x → Follows ws k (at_word (fault_for d) value ws i x)
    go none e =
        let l : i ≡ length ws = let a = r.inside in omega (arith, no_word ws i e) in
        inr (refl, record { short = r.short; before = λ j u. r.right j (omega arith); more = λ e. n (sym r.state ∙ ap (λ (j : ℕ). due (take j ws)) l ∙ ap due (take-length ws) ∙ e); place = refl })
    go (some w) e = one w (value w) e (agrees w)

number_tracks : (most : ℕ) (d : Due) (k : ℕ → Due) → ends d ≡ 0 → ((w : ℤ) → in_range_of d w ≡ from_zero_to most w) → ((n : ℕ) → next d (pos n) ≡ k n) → Tracks (word (fault_for d) (up_to most)) d k
number_tracks most d k more r n = word_tracks (up_to most) d k more agrees
  where
    agrees : (w : ℤ) → Agrees d k w (up_to most w)
    agrees (pos v) = go (leb v most) refl
      where
        go : (t : Bool) → leb v most ≡ t → Agrees d k (pos v) (only_if t v)
        go true u = (r (pos v) ∙ u, n v)
        go false u = r (pos v) ∙ u
    agrees (negsuc v) = r (negsuc v)

entry_agrees : (n rule rules left : ℕ) (w : ℤ) → Agrees (rule_entry n rule rules left) (λ (e : Entry). entries_due n rule rules left) w (as_entry n w)
entry_agrees n rule rules left (pos zero) = refl
entry_agrees n rule rules left (pos (suc v)) = go (ltb v n) refl _
  where
    go : (t : Bool) → ltb v n ≡ t → (e : Entry) → Agrees (rule_entry n rule rules left) (λ (e : Entry). entries_due n rule rules left) (pos (suc v)) (only_if t e)
    go true u e = (rw (le-leb 1 (suc v) (omega arith), u), refl)
    go false u e = rw (le-leb 1 (suc v) (omega arith), u)
entry_agrees n rule rules left (negsuc v) = go (ltb v n) refl _
  where
    go : (t : Bool) → ltb v n ≡ t → (e : Entry) → Agrees (rule_entry n rule rules left) (λ (e : Entry). entries_due n rule rules left) (negsuc v) (only_if t e)
    go true u e = (rw (le-leb 1 (suc v) (omega arith), u), refl)
    go false u e = rw (le-leb 1 (suc v) (omega arith), u)

entry_tracks : (n rule rules left : ℕ) → Tracks (entry n) (rule_entry n rule rules left) (λ e. entries_due n rule rules left)
entry_tracks n rule rules left = word_tracks (as_entry n) (rule_entry n rule rules left) (λ e. entries_due n rule rules left) refl (entry_agrees n rule rules left)

-- so many of something: `state l` is due where l of them are still to come
times_tracks : {A : Type 0} (r : ℕ → Reader A) (state : ℕ → Due) (k : ℕ) → ((l : ℕ) → l < k → Tracks (r l) (state (suc l)) (λ a. state l)) → Tracks (times k r) (state k) (λ a. state 0)
unfolding times
times_tracks r state zero t = λ ws i at. at
times_tracks r state (suc k) t =
    then_tracks (r k) _ (state (suc k)) (λ a. state k) (λ l. state 0) (t k (omega arith)) λ a.
    then_tracks (times k r) _ (state k) (λ l. state 0) (λ l. state 0) (times_tracks r state k (λ l h. t l (omega arith))) λ l ws i at. at

rule_tracks : (n number left : ℕ) → Tracks (rule n number) (rule_width n number left) (λ r. rules_due n (suc number) left)
unfolding rule
rule_tracks n number left =
    then_tracks (word (bad_width number) (up_to 32)) _ (rule_width n number left) (entries_due n number left) (λ r. rules_due n (suc number) left)
    (number_tracks 32 (rule_width n number left) (entries_due n number left) refl (λ w. refl) (λ v. refl))
    λ w. times_tracks (λ l. entry n) (entries_due n number left) w (λ l h. entry_tracks n number left l)

-- where l rules are still to come, the next is number m - l and one more
rules_track : (n m : ℕ) → Tracks (all_rules n m) (rules_due n 1 m) (λ rs. nothing_more)
unfolding all_rules
rules_track n m =
    subst (λ (k : ℕ). Tracks (all_rules n m) (rules_due n (suc k) m) (λ rs. nothing_more)) (let z : m - m ≡ 0 = omega arith in z)
    (times_tracks (λ left. rule n (m - left)) (λ l. rules_due n (suc (m - l)) l) m one)
  where
    one : (l : ℕ) → l < m → Tracks (rule n (m - l)) (rules_due n (suc (m - suc l)) (suc l)) (λ r. rules_due n (suc (m - l)) l)
    one l h =
        let z : m - l ≡ suc (m - suc l) = omega arith in
        subst (λ (k : ℕ). Tracks (rule n (m - l)) (rule_width n k l) (λ r. rules_due n (suc (m - l)) l)) z (rule_tracks n (m - l) l)

pub hall_tracks : Tracks hall device_count (λ h. nothing_more)
unfolding hall
hall_tracks =
    then_tracks (word bad_device_count (up_to 200)) _ device_count (λ n. costs_due n n) (λ h. nothing_more)
    (number_tracks 200 device_count (λ n. costs_due n n) refl (λ w. refl) (λ v. refl))
    λ n. then_tracks (times n (λ left. cost)) _ (costs_due n n) (λ cs. rule_count n) (λ h. nothing_more)
    (times_tracks (λ left. cost) (costs_due n) n (λ l h. number_tracks 1000000000 (device_cost n l) (λ c. costs_due n l) refl (λ w. refl) (λ v. refl)))
    λ cs. then_tracks (word bad_rule_count (up_to 2000)) _ (rule_count n) (rules_due n 1) (λ h. nothing_more)
    (number_tracks 2000 (rule_count n) (rules_due n 1) refl (λ w. refl) (λ v. refl))
    λ m. then_tracks (all_rules n m) _ (rules_due n 1 m) (λ rs. nothing_more) (λ h. nothing_more)
    (rules_track n m)
    λ rs ws i at. at

-- ── one way to stop ──
-- a word that is right before a place is not wrong
right_wrong : {A : Type 0} {ws : List ℤ} {i : ℕ} (f : Fault) (j : ℕ) → RightBefore ws i → j < i → FirstWrong f j ws → A
right_wrong f j r l w = both (r j l) w.wrong

pub stopped_only : (ws : List ℤ) (f g : Fault) (i j : ℕ) → Stopped ws f i → Stopped ws g j → (f ≡ g) × (i ≡ j)
stopped_only ws f g i j (inl (w, n)) (inl (v, k)) = go (tri i j)
  where
    go : Tri i j → (f ≡ g) × (i ≡ j)
    go (below u) = right_wrong f i v.before u w
    go (level u) = (sym w.kind ∙ ap (λ (j : ℕ). fault_for (due (take j ws))) u ∙ v.kind, u)
    go (above u) = right_wrong g j w.before u v
stopped_only ws f g i j (inl (w, n)) (inr (e, s)) = right_wrong f i s.before w.inside w
stopped_only ws f g i j (inr (e, s)) (inl (w, n)) = right_wrong g j s.before w.inside w
stopped_only ws f g i j (inr (e, s)) (inr (u, t)) = (e ∙ sym u, s.place ∙ sym t.place)

-- where nothing more is due no word is right
nothing_right : {A : Type 0} (ws : List ℤ) (i : ℕ) → due (take i ws) ≡ nothing_more → right_at ws i ≡ true → A
nothing_right ws i e t = both t (rw e)

pub whole_not_stopped : (ws : List ℤ) (f : Fault) (i j : ℕ) → RightUpTo ws j nothing_more → Stopped ws f i → ⊥
whole_not_stopped ws f i j r (inl (w, n)) = go (tri i j)
  where
    go : Tri i j → ⊥
    go (below u) = right_wrong f i r.right u w
    go (level u) = n (ap (λ (j : ℕ). due (take j ws)) u ∙ r.state)
    go (above u) = nothing_right ws j r.state (w.before j u)
whole_not_stopped ws f i j r (inr (e, s)) = go (tri j (length ws))
  where
    go : Tri j (length ws) → ⊥
    go (below u) = nothing_right ws j r.state (s.before j u)
    go (level u) = s.more (sym (ap due (take-length ws)) ∙ ap (λ (j : ℕ). due (take j ws)) (sym u) ∙ r.state)
    go (above u) = let a = r.inside in omega arith
