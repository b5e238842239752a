-- The words of a list, item after item, and the sheet of a hall.
--
-- In order: of one list behind another (`words_append`), and of one item (`words_one`); how many words numbers and entries are
-- (`number_words_length`, `entry_words_length`); each item's words tell where they end, so that no two halls have the same sheet (`Marks`,
-- `words_injective`). Assumes nothing.
use mathlib.Core.Path.{◌≡◌, refl, sym, ◌∙◌, ap}
use mathlib.Core.List.{List, [], ◌∷◌, ◌++◌, append_assoc, append-nil}
use Prim.Native.Nat.{ℕ, suc}
use native.Mathlib.Omega.{arith}
use lib.ListN.{length}
use lib.IntN.{ℤ, pos}
use Rattle.hall.specs.Hall.{at1, at0, Rule, Hall}
use Rattle.hall.specs.Ranges.{words_of, number_words, entry_words, rule_words, words}

module _ {A : Type 0} (f : A → List ℤ) where
  pub words_append : (l m : List A) → words_of f (l ++ m) ≡ words_of f l ++ words_of f m
  unfolding words_of
  words_append [] m = refl
  words_append (a ∷ l) m = ap (λ (ws : List ℤ). f a ++ ws) (words_append l m) ∙ sym (append_assoc (f a) (words_of f l) (words_of f m))

  pub words_one : (a : A) → words_of f (a ∷ []) ≡ f a
  unfolding words_of
  words_one a = append-nil (f a)

-- ── how many ──
pub number_words_length : (l : List ℕ) → length (words_of number_words l) ≡ length l
unfolding words_of
number_words_length [] = refl
number_words_length (n ∷ l) = ap suc (number_words_length l)

pub entry_words_length : (r : Rule) → length (words_of entry_words r) ≡ length r
unfolding words_of
entry_words_length [] = refl
entry_words_length (at1 v ∷ r) = ap suc (entry_words_length r)
entry_words_length (at0 v ∷ r) = ap suc (entry_words_length r)

-- ── one hall a sheet ──
-- words that begin with those of an item begin with those of no other
abbrev Marks : {A : Type 0} → (A → List ℤ) → Type 0
Marks {A} f = (a b : A) (x y : List ℤ) → f a ++ x ≡ f b ++ y → (a ≡ b) × (x ≡ y)

number_marks : Marks number_words
number_marks a b x y e = (cc, cc)

entry_marks : Marks entry_words
entry_marks (at1 v) (at1 w) x y e = let z : v ≡ w = cc in (ap at1 z, cc)
entry_marks (at0 v) (at0 w) x y e = let z : v ≡ w = cc in (ap at0 z, cc)
entry_marks (at1 v) (at0 w) x y e = absurd (let z : ◌≡◌ {A = ℕ} 0 1 = cc in omega arith)
entry_marks (at0 v) (at1 w) x y e = absurd (let z : ◌≡◌ {A = ℕ} 0 1 = cc in omega arith)

-- so do those of as many items
many_mark : {A : Type 0} (f : A → List ℤ) → Marks f → (l m : List A) → length l ≡ length m → (x y : List ℤ)
    → words_of f l ++ x ≡ words_of f m ++ y → (l ≡ m) × (x ≡ y)
unfolding words_of
many_mark f marks [] [] n x y e = (refl, e)
many_mark f marks [] (b ∷ m) n x y e = absurd (omega arith)
many_mark f marks (a ∷ l) [] n x y e = absurd (omega arith)
many_mark f marks (a ∷ l) (b ∷ m) n x y e =
    let first = marks a b (words_of f l ++ x) (words_of f m ++ y) (sym (append_assoc (f a) (words_of f l) x) ∙ e ∙ append_assoc (f b) (words_of f m) y) in
    let others = many_mark f marks l m (omega arith) x y first.1 in
    let p = first.0 in
    let q = others.0 in
    (cc, others.1)

rule_marks : Marks rule_words
unfolding rule_words
rule_marks r s x y e = let n : length r ≡ length s = cc in many_mark entry_words entry_marks r s n x y cc

same_parts : {h k : Hall} → h.costs ≡ k.costs → h.rules ≡ k.rules → h ≡ k
same_parts {h} {k} p q =
    ap (λ (l : List ℕ). record { costs = l; rules = h.rules }) p ∙ ap (λ (l : List Rule). record { costs = k.costs; rules = l }) q

pub words_injective : (h k : Hall) → words h ≡ words k → h ≡ k
unfolding words
words_injective h k e =
    let n : length h.costs ≡ length k.costs = cc in
    let rs = words_of rule_words h.rules in
    let ss = words_of rule_words k.rules in
    let costs = many_mark number_words number_marks h.costs k.costs n (pos (length h.rules) ∷ rs) (pos (length k.rules) ∷ ss) cc in
    let rest = costs.1 in
    let m : length h.rules ≡ length k.rules = cc in
    let same : rs ≡ ss = cc in
    let rules = many_mark rule_words rule_marks h.rules k.rules m [] [] (append-nil rs ∙ same ∙ sym (append-nil ss)) in
    same_parts costs.0 rules.0
