-- A refused width is that of the rule whose number is told: as many whole rules stand before it, less one (`width_place`).
--
-- In order: readers that no width stops (`Clean`), and what stands around them (`past_clean`, `before_clean`); where a run of rules is
-- stopped (`StopsAt`, `rules_stop`); the sheet up to there (`WidthAt`), of the hall's reader and of the whole. Assumes nothing.
use mathlib.Core.Path.{◌≡◌, refl, sym, ◌∙◌, ap, subst}
use mathlib.Core.Bool.{Bool, true, false}
use mathlib.Core.List.{List, [], ◌∷◌, ◌++◌, append_assoc}
use mathlib.Core.Option.{Option, none, some}
use Prim.Native.Nat.{ℕ, zero, suc, ◌+◌, ◌-◌, ◌≤◌}
use native.Mathlib.Omega.{arith}
use lib.ListN.{length, drop, get_elem?}
use lib.IntN.{ℤ, pos}
use lib.Dec.{ltb}
use Rattle.lists.specs.Lists.{Each}
use Rattle.hall.specs.Hall.{Rule, Hall}
use Rattle.hall.specs.Ranges.{RuleInRange, words_of, number_words, rule_words}
use Rattle.hall.specs.Reading.{Fault, bad_device_count, bad_cost, bad_entry, bad_rule_count, bad_width, Read, bad, got, Reader, then, ◌>>=◌, yield, as_read, at_word, word, up_to, as_entry, times, cost, entry, rule, all_rules, hall, ended_by, ended, room_by, has_room, decode_by, decode}
use Rattle.hall.specs.Due.{Reason}
use Rattle.hall.proofs.Reading.{clash, Took, count_takes, costs_take, rule_takes}
use Rattle.hall.proofs.Reasons.{verdict_only}

-- ── readers that no width stops ──
abbrev Clean : {A : Type 0} → Reader A → Type 0
Clean r = (ws : List ℤ) (i number p : ℕ) → r ws i ≡ bad (bad_width number) p → ⊥

-- the same refusal of another reader
same_stop : {A B : Type 0} {f g : Fault} {p q : ℕ} → ◌≡◌ {A = Read A} (bad f p) (bad g q) → ◌≡◌ {A = Read B} (bad f p) (bad g q)
same_stop {A} {B} {f} {g} {p} {q} e = let x : f ≡ g = cc in let y : p ≡ q = cc in rw (x, y)

-- the first of two readers went through, and the second was stopped
record Past {A B : Type 0} (r : Reader A) (s : A → Reader B) (ws : List ℤ) (i number p : ℕ) : Type 0 where
  value : A
  place : ℕ
  one : r ws i ≡ got value place
  two : s value ws place ≡ bad (bad_width number) p

module _ {A B : Type 0} (r : Reader A) (s : A → Reader B) (ws : List ℤ) (i number p : ℕ) (e : ◌>>=◌ r s ws i ≡ bad (bad_width number) p) where
  past_clean : Clean r → Past r s ws i number p
  past_clean c = go (r ws i) refl e
    where
      go : (x : Read A) → r ws i ≡ x → then x s ws ≡ bad (bad_width number) p → Past r s ws i number p
      go (bad f q) u e = absurd (c ws i number p (u ∙ same_stop e))
      go (got a j) u e = record { value = a; place = j; one = u; two = e }

  before_clean : ((a : A) → Clean (s a)) → r ws i ≡ bad (bad_width number) p
  before_clean c = go (r ws i) refl e
    where
      go : (x : Read A) → r ws i ≡ x → then x s ws ≡ bad (bad_width number) p → r ws i ≡ bad (bad_width number) p
      go (bad f q) u e = u ∙ same_stop e
      go (got a j) u e = absurd (c a ws j number p e)

yield_clean : {A : Type 0} (a : A) → Clean (yield a)
yield_clean a ws i number p e = clash (sym e)

-- what stops a reader of one word is its own kind, or that there is no word
word_clean : {A : Type 0} (c : Fault) (value : ℤ → Option A) → ((number : ℕ) → c ≡ bad_width number → ⊥) → Clean (word c value)
word_clean {A} c value n ws i number p e = go (get_elem? ws i) e
  where
    one : (x : Option A) → as_read c i x ≡ bad (bad_width number) p → ⊥
    one none e = n number cc
    one (some a) e = clash (sym e)

    go : (x : Option ℤ) → at_word c value ws i x ≡ bad (bad_width number) p → ⊥
    go none e = let z : ◌≡◌ {A = ℕ} 0 1 = cc in omega arith
    go (some w) e = one (value w) e

times_clean : {A : Type 0} (r : ℕ → Reader A) → ((left : ℕ) → Clean (r left)) → (k : ℕ) → Clean (times k r)
unfolding times
times_clean r c zero ws i number p e = clash (sym e)
times_clean r c (suc k) ws i number p e =
    let x = past_clean (r k) (λ a. times k r >>= λ m. yield (a ∷ m)) ws i number p e (c k) in
    times_clean r c k ws x.place number p (before_clean (times k r) (λ m. yield (x.value ∷ m)) ws x.place number p x.two (λ m. yield_clean (x.value ∷ m)))

-- ── rules ──
-- a rule that is stopped by a width is stopped by its own
rule_stops : (n number : ℕ) (ws : List ℤ) (i told p : ℕ) → rule n number ws i ≡ bad (bad_width told) p → (told ≡ number) × (p ≡ i)
unfolding rule
rule_stops n number ws i told p e =
    go (get_elem? ws i) (before_clean (word (bad_width number) (up_to 32)) (λ w. times w (λ left. entry n)) ws i told p e (times_clean (λ left. entry n) λ left. word_clean bad_entry (as_entry n) (λ k u. let z : ◌≡◌ {A = ℕ} 0 1 = cc in omega arith)))
  where
    one : (x : Option ℕ) → as_read (bad_width number) i x ≡ bad (bad_width told) p → (told ≡ number) × (p ≡ i)
    one none e = (cc, cc)
    one (some a) e = clash (sym e)

    go : (x : Option ℤ) → at_word (bad_width number) (up_to 32) ws i x ≡ bad (bad_width told) p → (told ≡ number) × (p ≡ i)
    go none e = absurd (let z : ◌≡◌ {A = ℕ} 0 1 = cc in omega arith)
    go (some w) e = one (up_to 32 w) e

-- of k rules so many were read whole, and the next was stopped, with `left` after it
record StopsAt (n m k : ℕ) (ws : List ℤ) (i number p : ℕ) : Type 0 where
  whole : List Rule
  place : ℕ
  left : ℕ
  taken : drop i ws ≡ words_of rule_words whole ++ drop place ws
  few : length whole + suc left ≡ k
  good : Each (RuleInRange n) whole
  stopped : rule n (m - left) ws place ≡ bad (bad_width number) p

module _ (n m : ℕ) (ws : List ℤ) (number p : ℕ) where
  one_more_lem : {k i : ℕ} (r : Rule) (j : ℕ) → Took rule_words (RuleInRange n) ws i r j → StopsAt n m k ws j number p → StopsAt n m (suc k) ws i number p
  unfolding words_of
  one_more_lem r j t s =
      let z = s.few in
      record {
        whole = r ∷ s.whole;
        place = s.place;
        left = s.left;
        taken = t.taken ∙ ap (λ (w : List ℤ). rule_words r ++ w) s.taken ∙ sym (append_assoc (rule_words r) (words_of rule_words s.whole) (drop s.place ws));
        few = omega arith;
        good = (t.good, s.good);
        stopped = s.stopped;
      }

  times_stop : (k i : ℕ) → times k (λ left. rule n (m - left)) ws i ≡ bad (bad_width number) p → StopsAt n m k ws i number p
  unfolding times words_of
  times_stop zero i e = clash (sym e)
  times_stop (suc k) i e = go (rule n (m - k) ws i) refl e (times_stop k)
    where
      go : (x : Read Rule) → rule n (m - k) ws i ≡ x → then x (λ r. times k (λ left. rule n (m - left)) >>= λ l. yield (r ∷ l)) ws ≡ bad (bad_width number) p → ((j : ℕ) → times k (λ left. rule n (m - left)) ws j ≡ bad (bad_width number) p → StopsAt n m k ws j number p) → StopsAt n m (suc k) ws i number p
      go (bad f q) u e ih = record { whole = []; place = i; left = k; taken = refl; few = omega arith; good = tt; stopped = u ∙ same_stop e }
      go (got r j) u e ih = one_more_lem r j (rule_takes n (m - k) ws i r j u) (ih j (before_clean (times k (λ left. rule n (m - left))) (λ l. yield (r ∷ l)) ws j number p e (λ l. yield_clean (r ∷ l))))

  rules_stop : (i : ℕ) → all_rules n m ws i ≡ bad (bad_width number) p → StopsAt n m m ws i number p
  unfolding all_rules
  rules_stop i e = times_stop m i e

-- ── the sheet up to a width ──
-- before the place stand the device count with its costs, the rule count, and whole rules within their ranges: as many as the rule's
-- number less one
pub record WidthAt (ws : List ℤ) (number place : ℕ) : Type 0 where
  pub costs : List ℕ
  pub count : ℕ
  pub rules : List Rule
  pub sheet : ws ≡ pos (length costs) ∷ (words_of number_words costs ++ (pos count ∷ (words_of rule_words rules ++ drop place ws)))
  pub good : Each (RuleInRange (length costs)) rules
  pub before : number ≡ suc (length rules)
  pub within : number ≤ count

module _ (ws : List ℤ) (number p : ℕ) where
  -- what was read before the rules, and then so many of them
  width_at : (n m j₁ j₂ j₃ : ℕ) (cs : List ℕ) → word bad_device_count (up_to 200) ws 0 ≡ got n j₁ → times n (λ left. cost) ws j₁ ≡ got cs j₂ → word bad_rule_count (up_to 2000) ws j₂ ≡ got m j₃ → all_rules n m ws j₃ ≡ bad (bad_width number) p → WidthAt ws number p
  width_at n m j₁ j₂ j₃ cs u v w e =
      let a = count_takes bad_device_count 200 ws 0 n j₁ u in
      let b = costs_take n ws j₁ cs j₂ v in
      let c = count_takes bad_rule_count 2000 ws j₂ m j₃ w in
      let s = rules_stop n m ws number p j₃ e in
      let t = rule_stops n (m - s.left) ws s.place number p s.stopped in
      let size : length cs ≡ n = b.good.0 in
      let few = s.few in
      let told = t.0 in
      record {
        costs = cs;
        count = m;
        rules = s.whole;
        sheet =
            a.taken ∙ ap (λ (w : List ℤ). pos n ∷ w) (b.taken ∙ ap (λ (w : List ℤ). words_of number_words cs ++ w) (c.taken ∙ ap (λ (w : List ℤ). pos m ∷ w) s.taken))
            ∙ ap (λ (i : ℕ). pos n ∷ (words_of number_words cs ++ (pos m ∷ (words_of rule_words s.whole ++ drop i ws)))) (sym t.1)
            ∙ ap (λ (k : ℕ). pos k ∷ (words_of number_words cs ++ (pos m ∷ (words_of rule_words s.whole ++ drop p ws)))) (sym size);
        good = subst (λ (k : ℕ). Each (RuleInRange k) s.whole) (sym size) s.good;
        before = omega arith;
        within = omega arith;
      }

  -- no part of a hall before its rules is stopped by a width
  hall_width : hall ws 0 ≡ bad (bad_width number) p → WidthAt ws number p
  unfolding hall
  hall_width e =
      let a = past_clean (word bad_device_count (up_to 200)) _ ws 0 number p e (word_clean bad_device_count (up_to 200) (λ k u. let z : ◌≡◌ {A = ℕ} 0 1 = cc in omega arith)) in
      let b = past_clean (times a.value (λ left. cost)) _ ws a.place number p a.two (times_clean (λ left. cost) (λ left. word_clean bad_cost (up_to 1000000000) (λ k u. let z : ◌≡◌ {A = ℕ} 0 1 = cc in omega arith)) a.value) in
      let c = past_clean (word bad_rule_count (up_to 2000)) _ ws b.place number p b.two (word_clean bad_rule_count (up_to 2000) (λ k u. let z : ◌≡◌ {A = ℕ} 0 1 = cc in omega arith)) in
      width_at a.value c.value a.place b.place c.place b.value a.one b.one c.one
      (before_clean (all_rules a.value c.value) _ ws c.place number p c.two (λ rs. yield_clean (record { costs = b.value; rules = rs })))

-- nor are the checks behind a hall
ended_clean : (h : Hall) → Clean (ended h)
ended_clean h ws i number p e = go (ltb i (length ws)) e
  where
    go : (t : Bool) → ended_by t h ws i ≡ bad (bad_width number) p → ⊥
    go true e = let z : ◌≡◌ {A = ℕ} 0 1 = cc in omega arith
    go false e = clash (sym e)

room_clean : (room : ℕ) (h : Hall) → Clean (has_room room h)
room_clean room h ws i number p e = go (ltb room (length h.costs)) e
  where
    go : (t : Bool) → room_by t h ws i ≡ bad (bad_width number) p → ⊥
    go true e = let z : ◌≡◌ {A = ℕ} 0 1 = cc in omega arith
    go false e = clash (sym e)

pub width_place : (ws : List ℤ) (room number place : ℕ) → Reason (bad_width number) place ws room → WidthAt ws number place
unfolding decode decode_by
width_place ws room number place r = go (ltb 16384 (length ws)) (verdict_only ws room (bad (bad_width number) place) r)
  where
    go : (t : Bool) → decode_by t room ws ≡ bad (bad_width number) place → WidthAt ws number place
    go true e = absurd (let z : ◌≡◌ {A = ℕ} 0 1 = cc in omega arith)
    go false e = hall_width ws number place (before_clean hall ended ws 0 number place (before_clean (hall >>= ended) (has_room room) ws 0 number place e (room_clean room)) ended_clean)
