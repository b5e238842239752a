-- 01'S OWN READING AND REQUEST 3'S ARE THE SAME on halls without a rule that names both positions of a device: meeting, least plan,
-- count and answer. 02, request 3: "both readings are proved equal on sheets without such rules".
--
-- The argument: on such a rule the two tests are the same (`one_way_meets` of Rules), so the two walks are, node by node. The
-- claims: `readings_meet`, `readings_least`, `readings_none`, `readings_walk` (the nodes opened and the best), `readings_answer`.
-- Assumes nothing.
use mathlib.Core.Path.{◌≡◌, refl, sym, ap, ◌∙◌}
use mathlib.Core.Logic.{◌↔◌}
use mathlib.Core.Bool.{Bool, true, false}
use mathlib.Core.List.{List, [], ◌∷◌}
use Prim.Native.Nat.{ℕ, zero, suc, ◌-◌}
use lib.ListN.{length}
use lib.IntN.{ℤ}
use Rattle.hall.specs.Hall.{Rule, Hall, Plan, meets_all, first_unmet, OneWay}
use Rattle.hall.specs.Order.{held_of, LeastOf, NoneOf}
use Rattle.hall.specs.Settings.{Satisfies}
use Rattle.hall.specs.Walk.{Best, none_yet, Walker, shut, through, opening, node_by, node, walk, walk_from, start, walk_hall}
use Rattle.hall.specs.Ranges.{HallInRange, SheetOf}
use Rattle.hall.specs.Reading.{Read, bad, got, decode}
use Rattle.hall.specs.Answer.{within, answer_read, answer}
use Rattle.hall.specs.Earlier.{holds_each, first_unheld, held_node_by, held_node, held_walk, held_walk_hall, held_answer_read, held_answer, HoldsSheet}
use Rattle.hall.proofs.Rules.{one_way_meets}
use Rattle.hall.proofs.Satisfied.{satisfies_exact, least_same, none_same}
use Rattle.hall.proofs.Walks.{node_same}
use Rattle.hall.proofs.Reasons.{decoded}

same_all : (p : Plan) (rs : List Rule) → OneWay rs → holds_each p rs ≡ meets_all p rs
unfolding holds_each meets_all
same_all p [] o = refl
same_all p (r ∷ rs) o = rw (one_way_meets p r o.0, same_all p rs o.1) refl

same_first : (p : Plan) (rs : List Rule) → OneWay rs → first_unheld p rs ≡ first_unmet p rs
unfolding first_unheld first_unmet
same_first p [] o = refl
same_first p (r ∷ rs) o = rw (one_way_meets p r o.0, same_first p rs o.1) refl

module _ (h : Hall) (o : OneWay h.rules) where
  -- ── meeting and the least plan ──
  module _ (ranges : HallInRange h) where
    pub readings_meet : (p : Plan) → HoldsSheet h p ↔ Satisfies h p
    readings_meet p = (
      λ s. (satisfies_exact h ranges.good p).1 (record { plan = s.plan; meets = sym (same_all p h.rules o) ∙ s.meets }),
      λ s. let m = (satisfies_exact h ranges.good p).0 s in record { plan = m.plan; meets = same_all p h.rules o ∙ m.meets },
    )

    pub readings_least : (p : Plan) → LeastOf HoldsSheet h p ↔ LeastOf Satisfies h p
    readings_least p = least_same HoldsSheet Satisfies h readings_meet p

    pub readings_none : NoneOf HoldsSheet h ↔ NoneOf Satisfies h
    readings_none = none_same HoldsSheet Satisfies h readings_meet

  -- ── the walk ──
  same_node : (c : Walker) (p : Plan) (b : Best) → held_node c h p b ≡ node c h p b
  unfolding held_node held_node_by node node_by
  same_node c p b = ap (opening p) (rw (same_all p h.rules o) (go (meets_all p h.rules) (shut h p b)))
    where
      go : (s t : Bool) → held_node_by s t c h p b ≡ node_by s t c h p b
      go true t = refl
      go false true = refl
      go false false = ap (λ (r : Rule). through c p r b) (same_first p h.rules o)

  same_walk : (n : ℕ) (p : Plan) (b : Best) → held_walk h n p b ≡ walk h n p b
  unfolding held_walk walk
  same_walk zero p b = same_node _ p b
  same_walk (suc n) p b = same_node _ p b ∙ node_same _ _ p (λ e b f. same_walk n _ b) h b

  pub readings_walk : held_walk_hall h ≡ walk_hall h
  unfolding held_walk_hall walk_hall walk_from
  readings_walk = same_walk (length (start h) - held_of (start h)) (start h) none_yet

-- ── the answer, of a sheet without such a rule and of every refused one ──
pub readings_answer : (ws : List ℤ) (budget room : ℕ) → ((h : Hall) → SheetOf h ws room → OneWay h.rules) → held_answer ws budget room ≡ answer ws budget room
unfolding held_answer answer
readings_answer ws budget room o = go (decode room ws) refl
  where
    go : (x : Read Hall) → decode room ws ≡ x → held_answer_read budget x ≡ answer_read budget x
    go (bad f i) e = refl
    go (got h j) e = ap (within h budget) (readings_walk h (o h (decoded ws room h j e)))
