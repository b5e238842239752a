-- THE CLAUSES ENCODE THE HALL: each setting that meets the hard clauses is a plan meeting the sheet, the soft weights that it
-- breaks add up to the plan's cost, and each such plan comes from exactly one setting. 02, request 4.
--
-- The argument: a setting that meets the pairs is the setting of its plan (`paired` of PlanSettings), so it is enough to speak
-- of the settings of plans. Such a setting meets the pairs, and it meets the rules where the plan does, since no rule that is
-- left names both positions of a device (`clauses_met`); rules and pairs have no weight, and the denials broken are those of the
-- held devices (`clauses_broken`). The claim: `encodes`. Assumes nothing.
use mathlib.Core.Path.{◌≡◌, refl, sym, ◌∙◌, ap}
use mathlib.Core.Bool.{true, and-true, ◌&&◌}
use mathlib.Core.List.{List, [], ◌∷◌, ◌++◌}
use Prim.Native.Nat.{ℕ, zero, suc}
use native.Mathlib.Omega.{arith}
use lib.ListN.{length}
use Rattle.hall.specs.Hall.{Rule, Hall, Plan, PlanOf, meets_all, OneWay, leave_out}
use Rattle.hall.specs.Order.{cost_of}
use Rattle.hall.specs.Settings.{Setting, Satisfies}
use Rattle.hall.specs.Ranges.{HallInRange}
use Rattle.lists.proofs.Cases.{and_both}
use Rattle.hall.proofs.Rules.{one_way_meets}
use Rattle.hall.proofs.Satisfied.{satisfies_exact}
use Rattle.hall.proofs.LeftOut.{met_without, left_one_way}
use Rattle.hall.proofs.Sums.{cost_sum}
use Rattle.rails.specs.Weighted.{meets_hard, broken, Allows}
use Rattle.rails.specs.Rails.{pairs_from, denials_from, rule_clauses, clauses, variables, plan_of, IsPlan, FromOne, Encodes}
use Rattle.rails.proofs.AnyClauses.{meets_append, broken_append}
use Rattle.rails.proofs.PlanSettings.{setting_for, setting_length, plan_of_setting, plan_length, plan_marks, rule_true_lem, pairs_met, paired, denials_cost}

-- ── each kind of clauses ──
rules_met : (p : Plan) (rs : List Rule) → OneWay rs → meets_hard (setting_for p) (rule_clauses rs) ≡ meets_all p rs
unfolding meets_hard meets_all
rules_met p [] o = refl
rules_met p (r ∷ rs) o = rw (rule_true_lem p r, one_way_meets p r o.0, rules_met p rs o.1) refl

rules_free : (s : Setting) (rs : List Rule) → broken s (rule_clauses rs) ≡ 0
unfolding broken
rules_free s [] = refl
rules_free s (r ∷ rs) = rules_free s rs

pairs_free : (s : Setting) (v : ℕ) (cs : List ℕ) → broken s (pairs_from v cs) ≡ 0
unfolding broken pairs_from
pairs_free s v [] = refl
pairs_free s v (c ∷ cs) = pairs_free s (suc v) cs

denials_met : (s : Setting) (v : ℕ) (cs : List ℕ) → meets_hard s (denials_from v cs) ≡ true
unfolding meets_hard denials_from
denials_met s v [] = refl
denials_met s v (zero ∷ cs) = denials_met s (suc v) cs
denials_met s v (suc c ∷ cs) = denials_met s (suc v) cs

-- ── all of them ──
module _ (h : Hall) where
  meets_parts : (s : Setting) → meets_hard s (clauses h) ≡ (meets_hard s (rule_clauses (leave_out h.rules)) && meets_hard s (pairs_from 0 h.costs))
  unfolding clauses
  meets_parts s =
      let pairs = pairs_from 0 h.costs in
      let denials = denials_from 0 h.costs in
      meets_append s (rule_clauses (leave_out h.rules)) (pairs ++ denials)
      ∙ rw (meets_append s pairs denials, denials_met s 0 h.costs, and-true (meets_hard s pairs)) refl

  clauses_met : (p : Plan) → length p ≡ length h.costs → meets_hard (setting_for p) (clauses h) ≡ meets_all p h.rules
  clauses_met p l =
      meets_parts (setting_for p)
      ∙ rw (pairs_met p h.costs l, rules_met p (leave_out h.rules) (left_one_way h.rules), met_without p h.rules) (and-true (meets_all p h.rules))

  clauses_broken : (p : Plan) → PlanOf h p → broken (setting_for p) (clauses h) ≡ cost_of h.costs p
  unfolding clauses
  clauses_broken p k =
      let s = setting_for p in
      let pairs = pairs_from 0 h.costs in
      let denials = denials_from 0 h.costs in
      omega (
        arith,
        broken_append s (rule_clauses (leave_out h.rules)) (pairs ++ denials),
        broken_append s pairs denials,
        rules_free s (leave_out h.rules),
        pairs_free s 0 h.costs,
        denials_cost p h.costs k.size k.marks,
      )

  -- what meets the hard clauses is the setting of its plan
  is_paired : (s : Setting) → Allows (variables h) (clauses h) s → setting_for (plan_of s) ≡ s
  is_paired s a =
      let parts = and_both (meets_hard s (rule_clauses (leave_out h.rules))) (meets_hard s (pairs_from 0 h.costs)) (sym (meets_parts s) ∙ a.meets) in
      paired s h.costs a.size parts.1

  module _ (ranges : HallInRange h) where
    is_plan : (s : Setting) → Allows (variables h) (clauses h) s → IsPlan h (clauses h) s
    is_plan s a =
        let p = plan_of s in
        let back = is_paired s a in
        let plan : PlanOf h p = record { size = plan_length (length h.costs) s a.size; marks = plan_marks s } in
        let meets = sym (clauses_met p plan.size) ∙ ap (λ (t : Setting). meets_hard t (clauses h)) back ∙ a.meets in
        record {
          sheet = (satisfies_exact h ranges.good p).1 (record { plan = plan; meets = meets });
          cost = ap (λ (t : Setting). broken t (clauses h)) (sym back) ∙ clauses_broken p plan ∙ cost_sum p plan;
        }

    from_one : (p : Plan) → Satisfies h p → FromOne h (clauses h) p
    from_one p k =
        let m = (satisfies_exact h ranges.good p).0 k in
        let size = m.plan.size in
        record {
          setting = setting_for p;
          allowed = record { size = omega (arith, setting_length p); meets = clauses_met p size ∙ m.meets };
          plan = plan_of_setting p m.plan.marks;
          only = λ s a e. sym (is_paired s a) ∙ ap setting_for e;
        }

    pub encodes : Encodes h (clauses h)
    encodes = record { sound = is_plan; each = from_one }
