-- The coded arrays read back as the hall, and what the walk needs of them.
--
-- In order: one element of a list, by what lies from its place on (`drop_head`); a code is its entry's (`code_entry`,
-- `code_device`); rules read back (`rules_back`); starts and codes, place by place (`starts_laid`, `starts_last`, `codes_named`); arrays
-- that hold a hall (`hall_back`, `hall_end`, `hall_laid`). Assumes nothing.
use mathlib.Core.Path.{◌≡◌, refl, sym, ◌∙◌, ap}
use mathlib.Core.List.{List, [], ◌∷◌, ◌++◌, append_assoc}
use Prim.Native.Nat.{ℕ, zero, suc, ◌+◌, ◌-◌, ◌/◌, ◌%◌, ◌≤◌, ◌<◌, zero-le}
use native.Mathlib.Nat.{zero-add}
use native.Mathlib.Omega.{arith}
use lib.ListN.{length, get_or, take, drop, length-append}
use lib.Seq.{drop-drop, drop_at}
use Rattle.hall.specs.Hall.{Entry, at1, at0, device, Rule, Hall}
use Rattle.lists.specs.Lists.{Each}
use Rattle.hall.specs.Ranges.{RuleInRange, HallInRange}
use Rattle.hall.specs.Bound.{entries}
use Rattle.lists.proofs.Each.{each_append}
use Rattle.lists.proofs.InFront.{front_stands, front_fits}
use Rattle.sheet.specs.Coded.{entry_of, entries_of, rules_of, hall_of, Laid, entry_code, entry_codes, starts_from}
use Rattle.sheet.specs.Contract.{Holds}
use Rattle.sheet.proofs.Standing.{codes_append, codes_length}

-- ── one element ──
drop_head : (l : List ℕ) (at x : ℕ) (xs : List ℕ) → drop at l ≡ x ∷ xs → (get_or l at 0 ≡ x) × (drop (at + 1) l ≡ xs)
drop_head [] zero x xs h = absurd (let z : ◌≡◌ {A = ℕ} 0 1 = cc in omega arith)
drop_head [] (suc at) x xs h = absurd (let z : ◌≡◌ {A = ℕ} 0 1 = cc in omega arith)
drop_head (w ∷ l) zero x xs h = (cc, cc)
drop_head (w ∷ l) (suc at) x xs h = let i = drop_head l at x xs h in let q : suc at + 1 ≡ suc (at + 1) = omega arith in (i.0, rw q i.1)

drop_more : (l : List ℕ) (at k : ℕ) (xs ys : List ℕ) → drop at l ≡ xs ++ ys → length xs ≡ k → drop (at + k) l ≡ ys
drop_more l at k xs ys h e = sym (drop-drop k at l) ∙ rw h (drop_at xs ys k e)

-- ── codes ──
code_entry : (e : Entry) → entry_of (entry_code e) ≡ e
unfolding entry_of entry_code
code_entry (at1 v) = let a : (v + v) % 2 ≡ 0 = omega arith in let b : (v + v) / 2 ≡ v = omega arith in rw (a, b)
code_entry (at0 v) = let a : (v + v + 1) % 2 ≡ 1 = omega arith in let b : (v + v + 1) / 2 ≡ v = omega arith in rw (a, b)

code_device : (e : Entry) → entry_code e / 2 ≡ device e
unfolding entry_code
code_device (at1 v) = omega arith
code_device (at0 v) = omega arith

entries_back : (codes : List ℕ) (at : ℕ) (es : Rule) (rest : List ℕ) → drop at codes ≡ entry_codes es ++ rest → entries_of codes at (length es) ≡ es
unfolding entries_of entry_codes
entries_back codes at [] rest h = refl
entries_back codes at (e ∷ es) rest h =
    let i = drop_head codes at (entry_code e) (entry_codes es ++ rest) h in
    rw (i.0, code_entry e, entries_back codes (at + 1) es rest i.1)

-- ── rules ──
-- the first start of rules, and the next
starts_head : (first : ℕ) (rs : List Rule) (starts : List ℕ) (r : ℕ) (rest : List ℕ) → drop r starts ≡ starts_from first rs ++ rest → get_or starts r 0 ≡ first
unfolding starts_from
starts_head first [] starts r rest h = (drop_head starts r first rest h).0
starts_head first (x ∷ rs) starts r rest h = (drop_head starts r first (starts_from (first + length x) rs ++ rest) h).0

starts_tail : (first : ℕ) (x : Rule) (rs : List Rule) (starts : List ℕ) (r : ℕ) (rest : List ℕ) → drop r starts ≡ starts_from first (x ∷ rs) ++ rest → drop (r + 1) starts ≡ starts_from (first + length x) rs ++ rest
unfolding starts_from
starts_tail first x rs starts r rest h = (drop_head starts r first (starts_from (first + length x) rs ++ rest) h).1

rules_back : (codes starts : List ℕ) (first r : ℕ) (rs : List Rule) (rest rest' : List ℕ) → drop first codes ≡ entry_codes (entries rs) ++ rest → drop r starts ≡ starts_from first rs ++ rest' → rules_of codes starts r (length rs) ≡ rs
unfolding rules_of entries
rules_back codes starts first r [] rest rest' h k = refl
rules_back codes starts first r (x ∷ rs) rest rest' h k =
    let split : drop first codes ≡ entry_codes x ++ (entry_codes (entries rs) ++ rest) = h ∙ ap (λ (l : List ℕ). l ++ rest) (codes_append x (entries rs)) ∙ append_assoc (entry_codes x) (entry_codes (entries rs)) rest in
    let tail = starts_tail first x rs starts r rest' k in
    let a = starts_head first (x ∷ rs) starts r rest' k in
    let b = starts_head (first + length x) rs starts (r + 1) rest' tail in
    let w : first + length x - first ≡ length x = omega arith in
    rw (a, b, w, entries_back codes first x (entry_codes (entries rs) ++ rest) split, rules_back codes starts (first + length x) (r + 1) rs rest rest' (drop_more codes first (length x) (entry_codes x) _ split (codes_length x)) tail)

-- ── place by place ──
starts_laid : (n : ℕ) (starts : List ℕ) (first r₀ : ℕ) (rs : List Rule) (rest : List ℕ) → Each (RuleInRange n) rs → drop r₀ starts ≡ starts_from first rs ++ rest → (r : ℕ) → r₀ ≤ r → r < r₀ + length rs
    → (get_or starts r 0 ≤ get_or starts (r + 1) 0) × (get_or starts (r + 1) 0 ≤ get_or starts r 0 + 32) × (get_or starts (r + 1) 0 ≤ first + length (entries rs))
unfolding entries
starts_laid n starts first r₀ [] rest g h r le lt = absurd (omega arith)
starts_laid n starts first r₀ (x ∷ rs) rest g h r le lt = go (r - r₀) refl (λ l m. starts_laid n starts (first + length x) (r₀ + 1) rs rest g.1 tail r l m)
  where
    tail : drop (r₀ + 1) starts ≡ starts_from (first + length x) rs ++ rest
    tail = starts_tail first x rs starts r₀ rest h

    go : (k : ℕ) → r - r₀ ≡ k
        → (r₀ + 1 ≤ r → r < r₀ + 1 + length rs → (get_or starts r 0 ≤ get_or starts (r + 1) 0) × (get_or starts (r + 1) 0 ≤ get_or starts r 0 + 32) × (get_or starts (r + 1) 0 ≤ first + length x + length (entries rs)))
        → (get_or starts r 0 ≤ get_or starts (r + 1) 0) × (get_or starts (r + 1) 0 ≤ get_or starts r 0 + 32) × (get_or starts (r + 1) 0 ≤ first + length (x ++ entries rs))
    go zero u ih =
        let q : r ≡ r₀ = omega arith in
        let a : get_or starts r 0 ≡ first = rw q (starts_head first (x ∷ rs) starts r₀ rest h) in
        let b : get_or starts (r + 1) 0 ≡ first + length x = rw q (starts_head (first + length x) rs starts (r₀ + 1) rest tail) in
        let w = g.0.width in
        (omega arith, omega arith, omega (arith, length-append x (entries rs)))
    go (suc k) u ih = let i = ih (omega arith) (omega arith) in (i.0, i.1, omega (arith, i.2, length-append x (entries rs)))

starts_last : (starts : List ℕ) (first r : ℕ) (rs : List Rule) (rest : List ℕ) → drop r starts ≡ starts_from first rs ++ rest → get_or starts (r + length rs) 0 ≡ first + length (entries rs)
unfolding entries
starts_last starts first r [] rest h = ap (λ (k : ℕ). get_or starts k 0) (omega arith) ∙ starts_head first [] starts r rest h ∙ omega arith
starts_last starts first r (x ∷ rs) rest h =
    let q : r + suc (length rs) ≡ r + 1 + length rs = omega arith in
    ap (λ (k : ℕ). get_or starts k 0) q ∙ starts_last starts (first + length x) (r + 1) rs rest (starts_tail first x rs starts r rest h) ∙ omega (arith, length-append x (entries rs))

codes_named : (n : ℕ) (codes : List ℕ) (at : ℕ) (es : List Entry) (rest : List ℕ) → Each (λ e. device e < n) es → drop at codes ≡ entry_codes es ++ rest → (i : ℕ) → at ≤ i → i < at + length es → get_or codes i 0 / 2 < n
unfolding entry_codes
codes_named n codes at [] rest b h i le lt = absurd (omega arith)
codes_named n codes at (e ∷ es) rest b h i le lt = go (i - at) refl (λ l m. codes_named n codes (at + 1) es rest b.1 (drop_head codes at (entry_code e) (entry_codes es ++ rest) h).1 i l m)
  where
    go : (k : ℕ) → i - at ≡ k → (at + 1 ≤ i → i < at + 1 + length es → get_or codes i 0 / 2 < n) → get_or codes i 0 / 2 < n
    go zero u ih = let q : i ≡ at = omega arith in rw (q, (drop_head codes at (entry_code e) (entry_codes es ++ rest) h).0, code_device e) b.0
    go (suc k) u ih = ih (omega arith) (omega arith)

entries_named : (n : ℕ) (rs : List Rule) → Each (RuleInRange n) rs → Each (λ e. device e < n) (entries rs)
unfolding entries
entries_named n [] g = tt
entries_named n (r ∷ rs) g = each_append (λ e. device e < n) r (entries rs) g.0.named (entries_named n rs g.1)

-- ── arrays that hold a hall ──
module _ (h : Hall) (costs codes starts costs' codes' starts' : List ℕ) (a : Holds h costs codes starts costs' codes' starts') where
  -- the arrays read back as the hall
  pub hall_back : hall_of (take (length h.costs) costs') codes' starts' (length h.rules) ≡ h
  hall_back = rw (a.costs_hold, front_stands h.costs costs, rules_back codes' starts' 0 0 h.rules _ _ a.codes_hold a.starts_hold)

  -- the last start is the number of entries
  pub hall_end : get_or starts' (length h.rules) 0 ≡ length (entries h.rules)
  hall_end =
      let z : 0 + length h.rules ≡ length h.rules = zero-add (length h.rules) in
      ap (λ (k : ℕ). get_or starts' k 0) (sym z) ∙ starts_last starts' 0 0 h.rules _ a.starts_hold ∙ zero-add (length (entries h.rules))

  -- starts rise, every rule lies within the codes and is at most 32 wide, every code names a device
  pub hall_laid : HallInRange h → Laid (length h.costs) codes' starts' (length h.rules)
  hall_laid r =
      let n = length h.costs in
      record {
        rise = λ i l. (laid i l).0;
        narrow = λ i l. (laid i l).1;
        within = λ i l. let w = (laid i l).2 in omega (arith, enough);
        named = λ i l. codes_named n codes' 0 (entries h.rules) _ (entries_named n h.rules r.good) a.codes_hold i zero-le (last i l);
      }
    where
      laid : (i : ℕ) → i < length h.rules → (get_or starts' i 0 ≤ get_or starts' (i + 1) 0) × (get_or starts' (i + 1) 0 ≤ get_or starts' i 0 + 32) × (get_or starts' (i + 1) 0 ≤ 0 + length (entries h.rules))
      laid i l = starts_laid (length h.costs) starts' 0 0 h.rules _ r.good a.starts_hold i zero-le (omega arith)

      enough : length (entries h.rules) ≤ length codes'
      enough = omega (arith, ap length a.codes_hold, front_fits (entry_codes (entries h.rules)) codes, codes_length (entries h.rules))

      last : (i : ℕ) → i < get_or starts' (length h.rules) 0 → i < 0 + length (entries h.rules)
      last i l = omega (arith, hall_end)
