-- What each reader of the decoder gives is in its range and stands on the sheet.
--
-- In order: a word at a place, and what lies past some words (`word_drop`, `drop_word`, `past`); one reader after another
-- (`reads`, `reads_on`); for each reader, from a word to a hall, the words that it took, the next place and the range of its
-- value (`Took`, `hall_takes`). The other way round is Sheets. Assumes nothing.
use mathlib.Core.Path.{◌≡◌, refl, sym, ◌∙◌, ap, subst}
use mathlib.Core.Bool.{Bool, true, false}
use mathlib.Core.List.{List, [], ◌∷◌, ◌++◌, append_assoc}
use mathlib.Core.Option.{Option, none, some}
use Prim.Native.Nat.{ℕ, zero, suc, ◌+◌, ◌-◌, ◌≤◌, ◌<◌}
use native.Mathlib.Omega.{arith}
use lib.ListN.{length, drop, get_elem?, length-append}
use lib.Seq.{drop-drop, drop-append_seam}
use lib.IntN.{ℤ, pos, negsuc}
use lib.Dec.{leb, ltb}
use borrow.Author.Tests.{leb-true, ltb-true}
use Rattle.hall.specs.Hall.{Entry, at1, at0, device, Rule}
use Rattle.lists.specs.Lists.{Each}
use Rattle.hall.specs.Ranges.{RuleInRange, HallInRange, words_of, number_words, entry_words, rule_words, words}
use Rattle.hall.specs.Reading.{Fault, bad_device_count, bad_cost, bad_entry, bad_rule_count, bad_width, Read, bad, got, Reader, then, ◌>>=◌, yield, as_read, at_word, word, only_if, up_to, as_entry, times, cost, entry, rule, all_rules, hall}

-- ── places ──
pub word_drop : (ws : List ℤ) (i : ℕ) (w : ℤ) → get_elem? ws i ≡ some w → drop i ws ≡ w ∷ drop (suc i) ws
word_drop [] i w e = absurd (let z : ◌≡◌ {A = ℕ} 0 1 = cc in omega arith)
word_drop (x ∷ ws) zero w e = let z : x ≡ w = cc in rw z
word_drop (x ∷ ws) (suc i) w e = word_drop ws i w e

pub drop_word : (ws : List ℤ) (i : ℕ) (w : ℤ) (rest : List ℤ) → drop i ws ≡ w ∷ rest → get_elem? ws i ≡ some w
drop_word [] zero w rest e = absurd (let z : ◌≡◌ {A = ℕ} 0 1 = cc in omega arith)
drop_word [] (suc i) w rest e = absurd (let z : ◌≡◌ {A = ℕ} 0 1 = cc in omega arith)
drop_word (x ∷ ws) zero w rest e = cc
drop_word (x ∷ ws) (suc i) w rest e = drop_word ws i w rest e

pub past : (ws : List ℤ) (i : ℕ) (x y : List ℤ) → drop i ws ≡ x ++ y → drop (i + length x) ws ≡ y
past ws i x y e = sym (drop-drop (length x) i ws) ∙ ap (drop (length x)) e ∙ drop-append_seam x y

-- ── one reader after another ──
pub clash : {A B : Type 0} {f : Fault} {p : ℕ} {a : A} {j : ℕ} → ◌≡◌ {A = Read A} (bad f p) (got a j) → B
clash e = absurd (let z : ◌≡◌ {A = ℕ} 0 1 = cc in omega arith)

-- what both of two readers gave
pub record Both {A B : Type 0} (r : Reader A) (s : A → Reader B) (ws : List ℤ) (i : ℕ) (b : B) (j : ℕ) : Type 0 where
  pub value : A
  pub place : ℕ
  pub one : r ws i ≡ got value place
  pub two : s value ws place ≡ got b j

pub reads : {A B : Type 0} (r : Reader A) (s : A → Reader B) (ws : List ℤ) (i : ℕ) (b : B) (j : ℕ) → ◌>>=◌ r s ws i ≡ got b j → Both r s ws i b j
reads {A} r s ws i b j e = go (r ws i) refl e
  where
    go : (x : Read A) → r ws i ≡ x → then x s ws ≡ got b j → Both r s ws i b j
    go (bad f p) u e = clash e
    go (got a p) u e = record { value = a; place = p; one = u; two = e }

pub reads_on : {A B : Type 0} (r : Reader A) (s : A → Reader B) (ws : List ℤ) (i : ℕ) {a : A} {j : ℕ} → r ws i ≡ got a j → ◌>>=◌ r s ws i ≡ s a ws j
reads_on {A} r s ws i e = ap (λ (x : Read A). then x s ws) e

-- ── forwards ──
-- the words that were taken, the next place, and a property of the value
pub record Took {A : Type 0} (f : A → List ℤ) (P : A → Type 0) (ws : List ℤ) (i : ℕ) (a : A) (j : ℕ) : Type 0 where
  pub taken : drop i ws ≡ f a ++ drop j ws
  pub next : j ≡ i + length (f a)
  pub good : P a

abbrev Takes : {A : Type 0} → Reader A → (A → List ℤ) → (A → Type 0) → Type 0
Takes {A} r f P = (ws : List ℤ) (i : ℕ) (a : A) (j : ℕ) → r ws i ≡ got a j → Took f P ws i a j

abbrev TookBy : {A : Type 0} → (A → List ℤ) → (A → Type 0) → List ℤ → ℕ → Read A → Type 0
TookBy f P ws i (bad c p) = Unit {0}
TookBy f P ws i (got a j) = Took f P ws i a j

-- a reading that is another one took the same
moved : {A : Type 0} (f : A → List ℤ) (P : A → Type 0) (ws : List ℤ) (i : ℕ) {a b : A} {j k : ℕ} → ◌≡◌ {A = Read A} (got a j) (got b k) → Took f P ws i a j → Took f P ws i b k
moved f P ws i e t = subst (TookBy f P ws i) e t

-- the value of a word is in its range and is written as that word
abbrev Values : {A : Type 0} → (ℤ → Option A) → (A → List ℤ) → (A → Type 0) → Type 0
Values {A} value f P = (w : ℤ) (a : A) → value w ≡ some a → (f a ≡ w ∷ []) × P a

word_takes : {A : Type 0} (c : Fault) (value : ℤ → Option A) (f : A → List ℤ) (P : A → Type 0) → Values value f P → Takes (word c value) f P
word_takes {A} c value f P v ws i a j e = go (get_elem? ws i) refl e
  where
    one : (w : ℤ) (x : Option A) → value w ≡ x → get_elem? ws i ≡ some w → as_read c i x ≡ got a j → Took f P ws i a j
    one w none u t e = clash e
    one w (some b) u t e = let k = v w b u in moved f P ws i e (record { taken = rw k.0 (word_drop ws i w t); next = rw k.0 (omega arith); good = k.1 })

    go : (x : Option ℤ) → get_elem? ws i ≡ x → at_word c value ws i x ≡ got a j → Took f P ws i a j
    go none t e = clash e
    go (some w) t e = one w (value w) refl t e

no_value : {A B : Type 0} {a : A} → ◌≡◌ {A = Option A} none (some a) → B
no_value e = absurd (let z : ◌≡◌ {A = ℕ} 0 1 = cc in omega arith)

up_to_values : (most : ℕ) → Values (up_to most) number_words (λ n. n ≤ most)
up_to_values most (pos n) a e = go (leb n most) refl e
  where
    go : (t : Bool) → leb n most ≡ t → only_if t n ≡ some a → (number_words a ≡ pos n ∷ []) × (a ≤ most)
    go true u e = let z : n ≡ a = cc in (rw z, rw z at (leb-true n most u))
    go false u e = no_value e
up_to_values most (negsuc n) a e = no_value e

entry_values : (n : ℕ) → Values (as_entry n) entry_words (λ e. device e < n)
entry_values n (pos zero) a e = no_value e
entry_values n (pos (suc v)) a e = go (ltb v n) refl e
  where
    go : (t : Bool) → ltb v n ≡ t → only_if t (at1 v) ≡ some a → (entry_words a ≡ pos (suc v) ∷ []) × (device a < n)
    go true u e = let z : at1 v ≡ a = cc in subst (λ (a : Entry). (entry_words a ≡ pos (suc v) ∷ []) × (device a < n)) z (refl, ltb-true v n u)
    go false u e = no_value e
entry_values n (negsuc v) a e = go (ltb v n) refl e
  where
    go : (t : Bool) → ltb v n ≡ t → only_if t (at0 v) ≡ some a → (entry_words a ≡ negsuc v ∷ []) × (device a < n)
    go true u e = let z : at0 v ≡ a = cc in subst (λ (a : Entry). (entry_words a ≡ negsuc v ∷ []) × (device a < n)) z (refl, ltb-true v n u)
    go false u e = no_value e

module _ {A : Type 0} (r : ℕ → Reader A) (f : A → List ℤ) (P : A → Type 0) (takes : (left : ℕ) → Takes (r left) f P) where
  one_more_lem : {k i j₁ j₂ : ℕ} {ws : List ℤ} (a : A) (l : List A) → Took f P ws i a j₁ → Took (words_of f) (λ l. (length l ≡ k) × Each P l) ws j₁ l j₂ → Took (words_of f) (λ l. (length l ≡ suc k) × Each P l) ws i (a ∷ l) j₂
  unfolding words_of
  one_more_lem {j₂ = j₂} {ws} a l t u =
      let n1 = t.next in
      let n2 = u.next in
      record { taken = t.taken ∙ ap (λ (w : List ℤ). f a ++ w) u.taken ∙ sym (append_assoc (f a) (words_of f l) (drop j₂ ws)); next = omega (arith, length-append (f a) (words_of f l)); good = (ap suc u.good.0, (t.good, u.good.1)) }

  times_takes : (k : ℕ) → Takes (times k r) (words_of f) (λ l. (length l ≡ k) × Each P l)
  unfolding times words_of
  times_takes zero ws i l j e = moved (words_of f) (λ l. (length l ≡ 0) × Each P l) ws i e (record { taken = refl; next = omega arith; good = (refl, tt) })
  times_takes (suc k) ws i l j e =
      let x = reads (r k) (λ a. times k r >>= λ m. yield (a ∷ m)) ws i l j e in
      let y = reads (times k r) (λ m. yield (x.value ∷ m)) ws x.place l j x.two in
      moved (words_of f) (λ l. (length l ≡ suc k) × Each P l) ws i y.two (one_more_lem x.value y.value (takes k ws i x.value x.place x.one) (times_takes k ws x.place y.value y.place y.one))

pub count_takes : (c : Fault) (most : ℕ) → Takes (word c (up_to most)) number_words (λ n. n ≤ most)
count_takes c most = word_takes c (up_to most) number_words (λ n. n ≤ most) (up_to_values most)

pub costs_take : (n : ℕ) → Takes (times n (λ left. cost)) (words_of number_words) (λ l. (length l ≡ n) × Each (λ c. c ≤ 1000000000) l)
costs_take n = times_takes (λ left. cost) number_words (λ c. c ≤ 1000000000) (λ left. count_takes bad_cost 1000000000) n

pub rule_takes : (n number : ℕ) → Takes (rule n number) rule_words (RuleInRange n)
unfolding rule rule_words
rule_takes n number ws i l j e =
    let x = reads (word (bad_width number) (up_to 32)) (λ w. times w (λ left. entry n)) ws i l j e in
    let t = count_takes (bad_width number) 32 ws i x.value x.place x.one in
    let u = times_takes (λ left. entry n) entry_words (λ e. device e < n) (λ left. word_takes bad_entry (as_entry n) entry_words (λ e. device e < n) (entry_values n)) x.value ws x.place l j x.two in
    let n1 = t.next in
    let n2 = u.next in
    let size = u.good.0 in
    let few = t.good in
    record { taken = rw size (t.taken ∙ ap (λ (v : List ℤ). pos x.value ∷ v) u.taken); next = omega arith; good = record { width = omega arith; named = u.good.1 } }

rules_take : (n m : ℕ) → Takes (all_rules n m) (words_of rule_words) (λ l. (length l ≡ m) × Each (RuleInRange n) l)
unfolding all_rules
rules_take n m = times_takes (λ left. rule n (m - left)) rule_words (RuleInRange n) (λ left. rule_takes n (m - left)) m

-- a hall that was read part by part
hall_made : (ws : List ℤ) (cs : List ℕ) (rs : List Rule) (n m i j₁ j₂ j₃ j : ℕ)
    → Took number_words (λ n. n ≤ 200) ws i n j₁
    → Took (words_of number_words) (λ l. (length l ≡ n) × Each (λ c. c ≤ 1000000000) l) ws j₁ cs j₂
    → Took number_words (λ n. n ≤ 2000) ws j₂ m j₃
    → Took (words_of rule_words) (λ l. (length l ≡ m) × Each (RuleInRange n) l) ws j₃ rs j
    → Took words HallInRange ws i (record { costs = cs; rules = rs }) j
unfolding words
hall_made ws cs rs n m i j₁ j₂ j₃ j a b c d =
    let na = a.next in
    let nb = b.next in
    let nc = c.next in
    let nd = d.next in
    let lc : length cs ≡ n = b.good.0 in
    let lr : length rs ≡ m = d.good.0 in
    let ga = a.good in
    let gc = c.good in
    record {
      taken = rw (lc, lr) (a.taken ∙ ap (λ (w : List ℤ). pos n ∷ w) (b.taken ∙ ap (λ (w : List ℤ). words_of number_words cs ++ w) (c.taken ∙ ap (λ (w : List ℤ). pos m ∷ w) d.taken) ∙ sym (append_assoc (words_of number_words cs) (pos m ∷ words_of rule_words rs) (drop j ws))));
      next = omega (arith, length-append (words_of number_words cs) (pos (length rs) ∷ words_of rule_words rs));
      good = record { devices = omega arith; cheap = b.good.1; count = omega arith; good = rw lc d.good.1 };
    }

pub hall_takes : Takes hall words HallInRange
unfolding hall
hall_takes ws i h j e =
    let w = reads (word bad_device_count (up_to 200)) _ ws i h j e in
    let x = reads (times w.value (λ left. cost)) _ ws w.place h j w.two in
    let y = reads (word bad_rule_count (up_to 2000)) _ ws x.place h j x.two in
    let z = reads (all_rules w.value y.value) _ ws y.place h j y.two in
    moved words HallInRange ws i z.two (hall_made ws x.value z.value w.value y.value i w.place x.place y.place z.place
    (count_takes bad_device_count 200 ws i w.value w.place w.one)
    (costs_take w.value ws w.place x.value x.place x.one)
    (count_takes bad_rule_count 2000 ws x.place y.value y.place y.one)
    (rules_take w.value y.value ws y.place z.value z.place z.one))
