-- Writing the rules, rule by rule.
--
-- In order: what holds before each rule (`Putting`); a start fits its array's type (`putting_small`); the rule at hand has room
-- (`putting_room`); over it to the next (`putting_more`); the end (`putting_end`). Assumes nothing.
use mathlib.Core.Path.{◌≡◌, ◌∙◌, ap, subst}
use mathlib.Core.List.{List}
use Prim.Native.Nat.{ℕ, ◌+◌, ◌-◌, ◌≤◌, ◌<◌}
use native.Mathlib.Omega.{arith}
use lib.ListN.{length, set}
use lib.Seq.{sets}
use lib.IntN.{ℤ}
use Rattle.lists.proofs.InFront.{sets_as_long}
use Rattle.sheet.specs.Word.{value_at, codes_from}
use Rattle.sheet.specs.Placed.{codes_in, starts_in, RulesStand, RulesRoom, CodesRoom, RulesPut}
use Rattle.sheet.proofs.Placing.{codes_more, codes_end, starts_more, starts_end}
use Rattle.sheet.proofs.Standing.{NextRule, next_rule}

-- the rules from r on stand from `place` on; what is left to write of codes and starts leaves what the whole leaves
pub record Putting (n : ℕ) (ws : List ℤ) (m : ℕ) (codes₀ starts₀ codes starts : List ℕ) (place first r : ℕ) : Type 0 where
  pub stands : RulesStand n ws place (m - r)
  pub near : first ≤ place
  pub within : r ≤ m
  pub codes_left : sets codes first (codes_in n ws place (m - r)) ≡ sets codes₀ 0 (codes_in n ws (n + 2) m)
  pub starts_left : sets starts r (starts_in ws place first (m - r)) ≡ sets starts₀ 0 (starts_in ws (n + 2) 0 m)

module _ {n : ℕ} {ws : List ℤ} {m : ℕ} {codes₀ starts₀ codes starts : List ℕ} {place first r : ℕ} (p : Putting n ws m codes₀ starts₀ codes starts place first r) where
  pub putting_small : first ≤ 16384
  putting_small =
      let near = p.near in
      let inside = p.stands.inside in
      let short = p.stands.short in
      omega arith

  next : r < m → NextRule n ws place (m - r)
  next l = next_rule n ws place (m - r) p.stands (λ (z : m - r ≡ 0). omega arith)

  -- what is left to write shows how long the array is
  codes_long : length codes ≡ length codes₀
  codes_long = sets_as_long codes codes₀ first 0 (codes_in n ws place (m - r)) (codes_in n ws (n + 2) m) p.codes_left

  pub putting_room : RulesRoom ws m codes₀ starts₀ → r < m → (w : ℕ) → w ≡ value_at ws place → CodesRoom (place + 1) w n first codes
  putting_room q l w e =
      let near = p.near in
      let short = p.stands.short in
      let places = q.codes_room in
      let room = (next l).room in
      record { devices = p.stands.devices; short = omega arith; room = omega (arith, codes_long) }

  pub putting_more : r < m → (w : ℕ) (codes' : List ℕ) → w ≡ value_at ws place → codes' ≡ sets codes first (codes_from n ws (place + 1) w)
      → Putting n ws m codes₀ starts₀ codes' (set starts r first) (place + 1 + w) (first + w) (r + 1)
  putting_more l w codes' e put =
      let more : m - r ≡ 0 → ⊥ = λ (z : m - r ≡ 0). omega arith in
      let less : m - r - 1 ≡ m - (r + 1) = omega arith in
      let k = p.near in
      record {
        stands = subst (λ (i : ℕ). RulesStand n ws (place + 1 + w) i) less (rw e (next l).stands);
        near = omega arith;
        within = l';
        codes_left = subst (λ (i : ℕ). sets codes' (first + w) (codes_in n ws (place + 1 + w) i) ≡ sets codes₀ 0 (codes_in n ws (n + 2) m)) less (codes_more n ws place (m - r) first w codes codes' _ more e put p.codes_left);
        starts_left = subst (λ (i : ℕ). sets (set starts r first) (r + 1) (starts_in ws (place + 1 + w) (first + w) i) ≡ sets starts₀ 0 (starts_in ws (n + 2) 0 m)) less (starts_more ws place (m - r) first w r starts _ more e p.starts_left);
      }
    where
      l' : r + 1 ≤ m
      l' = omega arith

  pub putting_end : m ≤ r → RulesPut n ws (n + 2) m codes₀ starts₀ codes (set starts m first)
  putting_end l =
      let k = p.within in
      let none : m - r ≡ 0 = omega arith in
      let last : m ≡ r = omega arith in
      record { codes_are = codes_end n ws place (m - r) first codes _ none p.codes_left; starts_are = ap (λ (i : ℕ). set starts i first) last ∙ starts_end ws place (m - r) first r starts _ none p.starts_left }
