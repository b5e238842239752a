-- The order of plans is strict and total.
--
-- It is a dictionary's order on ranks, so everything is said of lists of numbers first: how two lists compare by their first
-- numbers (`less_below`, `less_level`, `less_above`, `first`); never before itself (`irreflexive`); what lies before c lies
-- before b, or b before c (`split`), from which `transitive` and `not_after`; never both ways (`one_way`); neither before the
-- other means equal (`total`). Then of plans: `better_irreflexive`, `better_transitive`, `better_total`, `neither_better`.
-- Assumes nothing.
use mathlib.Core.Path.{◌≡◌, refl, sym, ◌∙◌}
use mathlib.Core.Logic.{◌⊎◌, inl, inr, ◌≢◌}
use mathlib.Core.Bool.{true, false, true≢false, false≢true}
use mathlib.Core.List.{List, [], ◌∷◌}
use Prim.Native.Nat.{ℕ, ◌<◌}
use native.Mathlib.Omega.{arith}
use borrow.Author.Tests.{lt-ltb, le-ltb, eq-eqb, ne_eqb}
use Rattle.hall.specs.Hall.{Plan}
use Rattle.hall.specs.Order.{less, rank, better}
use Rattle.lists.proofs.Cases.{test, both, fails, Tri, below, level, above, tri}

pub less_below : (x y : ℕ) (a b : List ℕ) → x < y → less (x ∷ a) (y ∷ b) ≡ true
unfolding less
less_below x y a b h = simp (lt-ltb x y h)

pub less_level : (x y : ℕ) (a b : List ℕ) → x ≡ y → less (x ∷ a) (y ∷ b) ≡ less a b
unfolding less
less_level x y a b h = simp (le-ltb x y (omega arith), eq-eqb x y h)

pub less_above : (x y : ℕ) (a b : List ℕ) → y < x → less (x ∷ a) (y ∷ b) ≡ false
unfolding less
less_above x y a b h = simp (le-ltb x y (omega arith), ne_eqb x y (λ (e : x ≡ y). omega arith))

-- what lies before does so by its first number, or by the rest
pub data First (x y : ℕ) (a b : List ℕ) : Type 0 where
  head : x < y → First x y a b
  tail : x ≡ y → less a b ≡ true → First x y a b

pub first : {x y : ℕ} {a b : List ℕ} → less (x ∷ a) (y ∷ b) ≡ true → First x y a b
first {x} {y} {a} {b} h = go (tri x y)
  where
    go : Tri x y → First x y a b
    go (below k) = head k
    go (level e) = tail e (sym (less_level x y a b e) ∙ h)
    go (above k) = both h (less_above x y a b k)

pub irreflexive : (a : List ℕ) → less a a ≡ false
unfolding less
irreflexive [] = refl
irreflexive (x ∷ a) = less_level x x a a refl ∙ irreflexive a

pub split : (a b c : List ℕ) → less a c ≡ true → (less a b ≡ true) ⊎ (less b c ≡ true)
unfolding less
split a b [] h = absurd (false≢true h)
split [] [] (z ∷ c) h = inr refl
split [] (y ∷ b) (z ∷ c) h = inl refl
split (x ∷ a) [] (z ∷ c) h = inr refl
split (x ∷ a) (y ∷ b) (z ∷ c) h = go (tri x y) (first h) (split a b c)
  where
    go : Tri x y → First x z a c → (less a c ≡ true → (less a b ≡ true) ⊎ (less b c ≡ true)) → (less (x ∷ a) (y ∷ b) ≡ true) ⊎ (less (y ∷ b) (z ∷ c) ≡ true)
    go (below k) f ih = inl (less_below x y a b k)
    go (above k) (head f) ih = inr (less_below y z b c (omega arith))
    go (above k) (tail f g) ih = inr (less_below y z b c (omega arith))
    go (level k) (head f) ih = inr (less_below y z b c (omega arith))
    go (level k) (tail f g) ih = on (ih g)
      where
        on : (less a b ≡ true) ⊎ (less b c ≡ true) → (less (x ∷ a) (y ∷ b) ≡ true) ⊎ (less (y ∷ b) (z ∷ c) ≡ true)
        on (inl u) = inl (less_level x y a b k ∙ u)
        on (inr u) = inr (less_level y z b c (omega arith) ∙ u)

-- neither before the other: the same list
pub total : (a b : List ℕ) → less a b ≡ false → less b a ≡ false → a ≡ b
unfolding less
total [] [] h k = refl
total [] (y ∷ b) h k = absurd (true≢false h)
total (x ∷ a) [] h k = absurd (true≢false k)
total (x ∷ a) (y ∷ b) h k = go (tri x y) (total a b)
  where
    go : Tri x y → (less a b ≡ false → less b a ≡ false → a ≡ b) → ◌≡◌ {A = List ℕ} (x ∷ a) (y ∷ b)
    go (below u) ih = both (less_below x y a b u) h
    go (above u) ih = both (less_below y x b a u) k
    go (level u) ih = let t = ih (sym (less_level x y a b u) ∙ h) (sym (less_level y x b a (sym u)) ∙ k) in cc

pub not_after : (a b c : List ℕ) → less b a ≡ false → less c b ≡ false → less c a ≡ false
not_after a b c h k = fails (λ t. go (split c b a t))
  where
    go : (less c b ≡ true) ⊎ (less b a ≡ true) → ⊥
    go (inl u) = both u k
    go (inr u) = both u h

pub one_way : (a b : List ℕ) → less a b ≡ true → less b a ≡ true → ⊥
unfolding less
one_way a [] h k = false≢true h
one_way [] (y ∷ b) h k = false≢true k
one_way (x ∷ a) (y ∷ b) h k = go (first h) (first k) (one_way a b)
  where
    go : First x y a b → First y x b a → (less a b ≡ true → less b a ≡ true → ⊥) → ⊥
    go (head u) (head v) ih = omega arith
    go (head u) (tail v s) ih = omega arith
    go (tail u r) (head v) ih = omega arith
    go (tail u r) (tail v s) ih = ih r s

pub transitive : (a b c : List ℕ) → less a b ≡ true → less b c ≡ true → less a c ≡ true
transitive a b c h k = go (split a c b h)
  where
    go : (less a c ≡ true) ⊎ (less c b ≡ true) → less a c ≡ true
    go (inl u) = u
    go (inr u) = absurd (one_way c b u k)

-- ── plans ──
module _ (cs : List ℕ) where
  pub better_irreflexive : (p : Plan) → better cs p p ≡ false
  unfolding better
  better_irreflexive p = irreflexive (rank cs p)

  pub better_transitive : (p q r : Plan) → better cs p q ≡ true → better cs q r ≡ true → better cs p r ≡ true
  unfolding better
  better_transitive p q r = transitive (rank cs p) (rank cs q) (rank cs r)

  pub neither_better : (p q : Plan) → better cs p q ≡ false → better cs q p ≡ false → p ≡ q
  unfolding better rank
  neither_better p q h k = let t = total (rank cs p) (rank cs q) h k in cc

  pub better_total : (p q : Plan) → p ≢ q → (better cs p q ≡ true) ⊎ (better cs q p ≡ true)
  better_total p q n = go (test (better cs p q)) (test (better cs q p))
    where
      go : (better cs p q ≡ true) ⊎ (better cs p q ≡ false) → (better cs q p ≡ true) ⊎ (better cs q p ≡ false) → (better cs p q ≡ true) ⊎ (better cs q p ≡ true)
      go (inl h) k = inl h
      go (inr h) (inl k) = inr k
      go (inr h) (inr k) = absurd (n (neither_better p q h k))
