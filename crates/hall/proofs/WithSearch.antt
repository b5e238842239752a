-- The list and the search agree. From what each promises alone: of whatever list has `Lists` and whatever answer has `Answered`.
--
-- In order: the least plan is the first of its ties (`first_tie`); what the search answers beside each case of the list (`Beside`). The
-- claim: `with_search`; of the two definitions, `listing_search`. Assumes nothing.
use mathlib.Core.Path.{◌≡◌, refl, sym, ◌∙◌}
use mathlib.Core.Logic.{◌⊎◌, inl, inr}
use mathlib.Core.Bool.{true}
use mathlib.Core.List.{List, [], ◌∷◌}
use Prim.Native.Nat.{ℕ}
use lib.IntN.{ℤ}
use Rattle.lists.specs.Lists.{In, first, later}
use Rattle.lists.proofs.Cases.{both}
use Rattle.lists.proofs.In.{in_none, in_cons}
use Rattle.hall.specs.Hall.{Hall, Plan}
use Rattle.hall.specs.Order.{better, LeastOf}
use Rattle.hall.specs.Settings.{Satisfies}
use Rattle.hall.specs.Answer as search
use Rattle.hall.specs.Demands.{Answered}
use Rattle.hall.specs.Listing.{Listing, listed, none, spent, refused, short, listing, Ranked, AllTies, Lists}
use Rattle.hall.proofs.Order.{better_transitive}
use Rattle.hall.proofs.Answers.{answered, answered_only}
use Rattle.hall.proofs.Listed.{lists}

-- the first of a list in order is better than each of the others
ranked_ahead : (cs : List ℕ) {q : Plan} (p : Plan) (ps : List Plan) → Ranked cs (p ∷ ps) → In q ps → better cs p q ≡ true
ranked_ahead cs {q = q} p [] r x'' = elim x'' [ ]
ranked_ahead cs p (q ∷ ps) r first = r.0
ranked_ahead cs {q} p (o ∷ ps) r (later i) = better_transitive cs p o q r.0 (ranked_ahead cs o ps r.1 i)

-- the least plan stands among its ties, and no plan that meets the sheet is better
pub first_tie : (Meets : Hall → Plan → Type 0) (h : Hall) (p : Plan) (ps : List Plan) → LeastOf Meets h p → AllTies Meets h p ps → (others : List Plan) × (ps ≡ p ∷ others)
first_tie Meets h p [] l t = in_none (t.every p l.sheet refl refl)
first_tie Meets h p (q ∷ qs) l t = go (in_cons (t.every p l.sheet refl refl))
  where
    go : (p ≡ q) ⊎ In p qs → (others : List Plan) × (◌≡◌ {A = List Plan} (q ∷ qs) (p ∷ others))
    go (inl e) = (qs, rw e)
    go (inr i) = both (ranked_ahead h.costs q qs t.ranked i) (l.best q (t.only q first).0)

-- beside a list the search gives its first plan, with the same cost, held number and count
pub record GivesFirst (cost held opened : ℕ) (ps : List Plan) (b : search.Answer) : Type 0 where
  pub plan : Plan
  pub others : List Plan
  pub first : ps ≡ plan ∷ others
  pub least : b ≡ search.least cost held opened plan

-- beside 51 it gives a least plan
pub record GivesOne (b : search.Answer) : Type 0 where
  pub cost : ℕ
  pub held : ℕ
  pub opened : ℕ
  pub plan : Plan
  pub least : b ≡ search.least cost held opened plan

-- beside none, spent and a refusal of the sheet it gives the same
abbrev pub Beside : Listing → search.Answer → Type 0
Beside (listed cost held opened ps) b = GivesFirst cost held opened ps b
Beside (none opened) b = b ≡ search.none opened
Beside (spent opened) b = b ≡ search.spent opened
Beside (refused f place) b = b ≡ search.refused f place
Beside (short place) b = GivesOne b

module _ (ws : List ℤ) (budget room : ℕ) where
  pub with_search : (a : Listing) (b : search.Answer) → Lists ws budget room a → Answered ws budget 200 b → Beside a b
  with_search a b s d = go a s
    where
      is : (c : search.Answer) → Answered ws budget 200 c → b ≡ c
      is c k = sym (answered_only ws budget 200 b d) ∙ answered_only ws budget 200 c k

      go : (a : Listing) → Lists ws budget room a → Beside a b
      go (listed cost held opened ps) s =
          let l = s.least in
          let f = first_tie Satisfies l.hall s.plan ps l.plan s.list in
          record { plan = s.plan; others = f.0; first = f.1; least = is (search.least cost held opened s.plan) l }
      go (none opened) s = is (search.none opened) s
      go (spent opened) s = is (search.spent opened) s
      go (refused f place) s = is (search.refused f place) s
      go (short place) s =
          record { cost = s.cost; held = s.held; opened = s.opened; plan = s.plan; least = is (search.least s.cost s.held s.opened s.plan) s.least }

  pub listing_search : Beside (listing ws budget room) (search.answer ws budget 200)
  listing_search = with_search (listing ws budget room) (search.answer ws budget 200) (lists ws budget room) (answered ws budget 200)
