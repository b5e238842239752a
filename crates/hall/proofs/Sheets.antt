-- The sheet of a hall within every range is accepted, and that hall is what is decoded.
--
-- In order: what stands on the sheet and is in its range is given, for each reader from a word to a hall (`GivesBack`,
-- `hall_gives`); the whole sheet (`accepted`), and its number of devices
-- (`devices_on_lem`). That nothing else is accepted is `decoded`, in Reasons. Assumes nothing.
use mathlib.Core.Path.{◌≡◌, refl, sym, ◌∙◌, ap}
use mathlib.Core.List.{List, [], ◌∷◌, ◌++◌, append_assoc, append-nil}
use mathlib.Core.Option.{Option, some}
use Prim.Native.Nat.{ℕ, ◌+◌, ◌-◌, ◌≤◌, ◌<◌}
use native.Mathlib.Omega.{arith}
use lib.ListN.{length, drop, length-append}
use lib.IntN.{ℤ, pos}
use borrow.Author.Tests.{le-leb, lt-ltb, le-ltb}
use Rattle.hall.specs.Hall.{at1, at0, device, Rule, Hall}
use Rattle.lists.specs.Lists.{Each}
use Rattle.hall.specs.Ranges.{RuleInRange, HallInRange, words_of, number_words, entry_words, rule_words, words, SheetOf}
use Rattle.hall.specs.Reading.{Fault, bad_device_count, bad_cost, bad_entry, bad_rule_count, bad_width, got, Reader, ◌>>=◌, yield, word, up_to, as_entry, times, cost, entry, rule, all_rules, hall, ended, has_room, decode_by, decode}
use Rattle.hall.specs.Due.{devices_on}
use Rattle.hall.proofs.Reading.{drop_word, past, reads_on}

-- ── what stands on the sheet is given ──
abbrev GivesBack : {A : Type 0} → Reader A → (A → List ℤ) → (A → Type 0) → Type 0
GivesBack {A} r f P = (a : A) → P a → (ws : List ℤ) (i : ℕ) (rest : List ℤ) → drop i ws ≡ f a ++ rest → r ws i ≡ got a (i + length (f a))

word_gives : {A : Type 0} (c : Fault) (value : ℤ → Option A) (w : ℤ) (a : A) → value w ≡ some a → (ws : List ℤ) (i : ℕ) (rest : List ℤ) → drop i ws ≡ w ∷ rest → word c value ws i ≡ got a (i + 1)
word_gives c value w a v ws i rest e = rw (drop_word ws i w rest e, v) (ap (λ (j : ℕ). got a j) (omega arith))

number_gives : (c : Fault) (most : ℕ) → GivesBack (word c (up_to most)) number_words (λ n. n ≤ most)
number_gives c most n g = word_gives c (up_to most) (pos n) n (rw (le-leb n most g))

entry_gives : (n : ℕ) → GivesBack (entry n) entry_words (λ e. device e < n)
entry_gives n (at1 v) g = word_gives bad_entry (as_entry n) _ (at1 v) (rw (lt-ltb v n g))
entry_gives n (at0 v) g = word_gives bad_entry (as_entry n) _ (at0 v) (rw (lt-ltb v n g))

module _ {A : Type 0} (r : ℕ → Reader A) (f : A → List ℤ) (P : A → Type 0) (gives : (left : ℕ) → GivesBack (r left) f P) where
  times_gives : (l : List A) → Each P l → (ws : List ℤ) (i : ℕ) (rest : List ℤ) → drop i ws ≡ words_of f l ++ rest → times (length l) r ws i ≡ got l (i + length (words_of f l))
  unfolding times words_of
  times_gives [] g ws i rest e = ap (λ (j : ℕ). got [] j) (omega arith)
  times_gives (a ∷ l) g ws i rest e =
      let front : drop i ws ≡ f a ++ (words_of f l ++ rest) = e ∙ append_assoc (f a) (words_of f l) rest in
      let next = past ws i (f a) (words_of f l ++ rest) front in
      reads_on (r (length l)) (λ a. times (length l) r >>= λ m. yield (a ∷ m)) ws i (gives (length l) a g.0 ws i (words_of f l ++ rest) front)
      ∙ reads_on (times (length l) r) (λ m. yield (a ∷ m)) ws (i + length (f a)) (times_gives l g.1 ws (i + length (f a)) rest next)
      ∙ ap (λ (j : ℕ). got (a ∷ l) j) (omega (arith, length-append (f a) (words_of f l)))

rule_gives : (n number : ℕ) → GivesBack (rule n number) rule_words (RuleInRange n)
unfolding rule rule_words
rule_gives n number r g ws i rest e =
    reads_on (word (bad_width number) (up_to 32)) (λ w. times w (λ left. entry n)) ws i (number_gives (bad_width number) 32 (length r) g.width ws i (words_of entry_words r ++ rest) e)
    ∙ times_gives (λ left. entry n) entry_words (λ e. device e < n) (λ left. entry_gives n) r g.named ws (i + 1) rest (past ws i (pos (length r) ∷ []) (words_of entry_words r ++ rest) e)
    ∙ ap (λ (j : ℕ). got r j) (omega arith)

rules_give : (n : ℕ) (rs : List Rule) → Each (RuleInRange n) rs → (ws : List ℤ) (i : ℕ) (rest : List ℤ) → drop i ws ≡ words_of rule_words rs ++ rest → all_rules n (length rs) ws i ≡ got rs (i + length (words_of rule_words rs))
unfolding all_rules
rules_give n rs = times_gives (λ left. rule n (length rs - left)) rule_words (RuleInRange n) (λ left. rule_gives n (length rs - left)) rs

pub hall_gives : GivesBack hall words HallInRange
unfolding hall words
hall_gives h g ws i rest e =
    let cs = words_of number_words h.costs in
    let rs = words_of rule_words h.rules in
    let n = length h.costs in
    let m = length h.rules in
    let e₁ = past ws i (pos n ∷ []) (cs ++ (pos m ∷ (rs ++ rest))) (e ∙ ap (λ (w : List ℤ). pos n ∷ w) (append_assoc cs (pos m ∷ rs) rest)) in
    let e₂ = past ws (i + 1) cs (pos m ∷ (rs ++ rest)) e₁ in
    let e₃ = past ws (i + 1 + length cs) (pos m ∷ []) (rs ++ rest) e₂ in
    reads_on (word bad_device_count (up_to 200)) _ ws i (number_gives bad_device_count 200 n g.devices ws i _ e)
    ∙ reads_on (times n (λ left. cost)) _ ws (i + 1) (times_gives (λ left. cost) number_words (λ c. c ≤ 1000000000) (λ left. number_gives bad_cost 1000000000) h.costs g.cheap ws (i + 1) (pos m ∷ (rs ++ rest)) e₁)
    ∙ reads_on (word bad_rule_count (up_to 2000)) _ ws (i + 1 + length cs) (number_gives bad_rule_count 2000 m g.count ws (i + 1 + length cs) (rs ++ rest) e₂)
    ∙ reads_on (all_rules n m) _ ws (i + 1 + length cs + 1) (rules_give n h.rules g.good ws (i + 1 + length cs + 1) rest e₃)
    ∙ ap (λ (j : ℕ). got h j) (omega (arith, length-append cs (pos m ∷ rs)))

-- ── the whole sheet ──
pub accepted : (room : ℕ) (ws : List ℤ) (h : Hall) → SheetOf h ws room → decode room ws ≡ got h (length ws)
unfolding decode decode_by
accepted room ws h s =
    let e : drop 0 ws ≡ words h ++ [] = s.sheet ∙ sym (append-nil (words h)) in
    let l : length ws ≡ length (words h) = ap length s.sheet in
    let r : ◌>>=◌ hall ended ws 0 ≡ got h (0 + length (words h)) = reads_on hall ended ws 0 (hall_gives h s.ranges ws 0 [] e) ∙ rw (le-ltb (0 + length (words h)) (length ws) (omega arith)) in
    rw (le-ltb 16384 (length ws) s.short)
    (reads_on (hall >>= ended) (has_room room) ws 0 r ∙ rw (le-ltb room (length h.costs) s.fits) (ap (λ (j : ℕ). got h j) (omega arith)))

-- its first word is the number of its devices
pub devices_on_lem : {h : Hall} {ws : List ℤ} {room : ℕ} → SheetOf h ws room → devices_on ws ≡ length h.costs
unfolding words
devices_on_lem s = rw s.sheet refl
