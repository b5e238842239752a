-- Keeping a plan that meets every rule: its place in the run of the plans that tie.
--
-- In order: one plan more behind others (`joined_one`, `fits_one`); a plan of no devices among others (`noted_none`), and any other among
-- the plans of a run (`noted_some`); a plan that ties: where more are known than asked for (`note_beyond`), where it stands there already
-- (`note_again`), where it is written (`note_written`) and where it is only counted (`note_counted`); by its price (`nothing_noted`,
-- `retie_lower`, `retie_equal`, `retie_higher`). Assumes nothing.
use mathlib.Core.Path.{◌≡◌, refl, sym, ◌∙◌, ap, subst}
use mathlib.Core.Bool.{Bool, true, false, cond}
use mathlib.Core.List.{List, [], ◌∷◌, ◌++◌, append_assoc, append-nil}
use Prim.Native.Nat.{ℕ, suc, ◌+◌, ◌-◌, ◌*◌, ◌≤◌, ◌<◌}
use native.Mathlib.Omega.{arith}
use native.Mathlib.Nat.{mul-le-mul_right, suc-mul}
use Rattle.std.proofs.Common.{Option}
use Rattle.std.specs.declared.cmp.Ordering.{Ordering}
use Rattle.std.specs.declared.cmp.Ordering.TheVariants.{Less, Equal, Greater}
use Rattle.std.specs.Ordering.{is_lt, is_eq}
use lib.ListN.{length, take, drop, length-append, drop_of_length-le}
use lib.Dec.{ltb}
use lib.Seq.{take_all, take-nil, take-append-le, take-append_seam, drop-append_seam}
use borrow.Author.Tests.{lt-ltb}
use Rattle.lists.specs.Lists.{Each}
use Rattle.lists.proofs.Each.{each_append}
use Rattle.hall.specs.Hall.{Plan}
use Rattle.hall.specs.Order.{less}
use Rattle.hall.specs.Ties.{stands_in, noted_by, joined}
use Rattle.plans.specs.Runs.{plans_in, written_in}
use Rattle.plans.proofs.Runs.{plans_joined, joined_length}
use Rattle.plans.proofs.Writing.{write_fits}
use Rattle.walk.specs.declared.kept.Ties.{Ties}
use Rattle.walk.specs.declared.kept.Price.{Price}
use Rattle.walk.specs.Best.{compared}
use Rattle.walk.specs.Kept.{is_lower, is_equal, Stored, Notable, IsNoted, Notes, Reties}
use Rattle.walk.proofs.Prices.{lower_is, equal_is}

joined_one : (ts : List Plan) (p : Plan) (rest : List ℕ) → joined (ts ++ (p ∷ [])) ++ rest ≡ joined ts ++ (p ++ rest)
unfolding joined
joined_one [] p rest = append_assoc p [] rest
joined_one (t ∷ ts) p rest = append_assoc t (joined (ts ++ (p ∷ []))) rest ∙ ap (λ (l : List ℕ). t ++ l) (joined_one ts p rest) ∙ sym (append_assoc t (joined ts) (p ++ rest))

-- there is place for one plan more
fits_one : (count most n end run rest : ℕ) → count < most → end ≡ count * n → most * n ≤ run → run ≡ end + rest → n ≤ rest
fits_one count most n end run rest l e long is = omega (arith, mul-le-mul_right n l, suc-mul count n)

-- ── whether a plan is there ──
pub noted_none : (p : Plan) (run : List ℕ) (count : ℕ) → length p ≡ 0 → IsNoted p run count (ltb 0 count)
unfolding stands_in less
noted_none [] run count e [] sizes is many = rw many refl
noted_none [] run count e ([] ∷ ts) sizes is many = rw (many, lt-ltb 0 (suc (length ts)) (omega arith)) refl
noted_none [] run count e ((x ∷ t) ∷ ts) sizes is many = absurd (omega (arith, sizes.0))
noted_none (x ∷ p) run count e ts sizes is many = absurd (omega arith)

pub noted_some : (p : Plan) (run : List ℕ) (count : ℕ) {r : Bool} → (length p ≡ 0 → ⊥) → r ≡ stands_in p (plans_in (length p) run) → IsNoted p run count r
noted_some p run count n e ts sizes is many = e ∙ ap (stands_in p) (ap (plans_in (length p)) is ∙ plans_joined (length p) ts (omega arith) sizes)

-- ── a plan that ties ──
module _ (p : Plan) (run : List ℕ) (ties : Ties) where
  -- no fewer plans than are asked for: another one changes nothing
  take_more : (ts : List Plan) → ties.most ≤ length ts → joined (take ties.most (ts ++ (p ∷ []))) ≡ joined (take ties.most ts)
  take_more ts l = ap joined (take-append-le ties.most ts (p ∷ []) l)

  one_size : (ts : List Plan) → Each (λ t. length t ≡ length p) ts → Each (λ t. length t ≡ length p) (ts ++ (p ∷ []))
  one_size ts sizes = each_append (λ t. length t ≡ length p) ts (p ∷ []) sizes (refl, tt)

  -- with one plan more that is only counted
  counted_one : {r : Ties} (ts : List Plan) → Stored (length p) ties run ts → ties.most ≤ length ts → r.most ≡ ties.most → r.count ≡ suc ties.most → Stored (length p) r run (ts ++ (p ∷ []))
  counted_one ts q l same more = record {
    sizes = one_size ts q.sizes;
    count = omega (arith, length-append ts (p ∷ []));
    rest = q.rest;
    front = q.front ∙ ap (λ (l : List ℕ). l ++ q.rest) (sym (take_more ts l) ∙ ap (λ (k : ℕ). joined (take k (ts ++ (p ∷ [])))) (sym same));
  }

  pub note_beyond : ties.most < ties.count → Notes p run ties ties run
  unfolding noted_by
  note_beyond l = record { most = refl; stores = λ ts q. go (stands_in p ts) ts q }
    where
      go : (t : Bool) (ts : List Plan) → Stored (length p) ties run ts → Stored (length p) ties run (cond t ts (ts ++ (p ∷ [])))
      go true ts q = q
      go false ts q = let c = q.count in counted_one ts q (omega arith) refl (omega arith)

  module _ (room : Notable (length p) run ties) (few : ties.count ≤ ties.most) where
    -- where the plans before this one end
    abbrev end : ℕ
    end = ties.count * length p

    module _ (ts : List Plan) (q : Stored (length p) ties run ts) where
      -- all plans lie in front of the run
      all_there : ties.count ≡ length ts
      all_there = let c = q.count in omega arith

      front_is : run ≡ joined ts ++ q.rest
      front_is = q.front ∙ ap (λ (l : List Plan). joined l ++ q.rest) (take_all ties.most ts (omega (arith, all_there)))

      front_long : end ≡ length (joined ts)
      front_long = ap (λ (k : ℕ). k * length p) all_there ∙ sym (joined_length (length p) ts q.sizes)

      front_taken : take end run ≡ joined ts
      front_taken = ap (take end) front_is ∙ ap (λ (k : ℕ). take k (joined ts ++ q.rest)) front_long ∙ take-append_seam (joined ts) q.rest

      rest_left : drop end run ≡ q.rest
      rest_left = ap (drop end) front_is ∙ ap (λ (k : ℕ). drop k (joined ts ++ q.rest)) front_long ∙ drop-append_seam (joined ts) q.rest

    module _ {r : Bool} (asked : IsNoted p (take end run) ties.count r) where
      is_there : (ts : List Plan) → Stored (length p) ties run ts → stands_in p ts ≡ r
      is_there ts q = sym (asked ts q.sizes (front_taken ts q) (all_there ts q))

      pub note_again : r ≡ true → Notes p run ties ties run
      unfolding noted_by
      note_again yes-so = record { most = refl; stores = λ ts q. subst (λ (t : Bool). Stored (length p) ties run (cond t ts (ts ++ (p ∷ [])))) (sym (is_there ts q ∙ yes-so)) q }

      module _ (not_so : r ≡ false) where
        abbrev more : Ties
        more = record { most = ties.most; count = ties.count + 1 }

        new : (ts : List Plan) (run' : List ℕ) → Stored (length p) ties run ts → Stored (length p) more run' (ts ++ (p ∷ [])) → Stored (length p) more run' (noted_by false true p ts)
        unfolding noted_by
        new ts run' q x = subst (λ (t : Bool). Stored (length p) more run' (cond t ts (ts ++ (p ∷ [])))) (sym (is_there ts q ∙ not_so)) x

        pub note_counted : ties.most ≤ ties.count → {run' : List ℕ} → run' ≡ run → Notes p run ties more run'
        note_counted n e = rw e (record { most = refl; stores = λ ts q. new ts run q (counted_one ts q (omega (arith, all_there ts q)) refl (omega arith)) })

        pub note_written : ties.count < ties.most → (out : List ℕ) → out ≡ written_in p (take (length run - end) (drop end run))
            → {run' : List ℕ} → run' ≡ take end run ++ (out ++ drop (length run - end) (drop end run)) → Notes p run ties more run'
        note_written l out w f = rw f (record { most = refl; stores = λ ts q. new ts _ q (written ts q) })
          where
            written : (ts : List Plan) → Stored (length p) ties run ts → Stored (length p) more (take end run ++ (out ++ drop (length run - end) (drop end run))) (ts ++ (p ∷ []))
            written ts q =
                let long = ap length (front_is ts q) ∙ length-append (joined ts) q.rest in
                let all = front_long ts q in
                let room_for_lem : length p ≤ length q.rest = fits_one ties.count ties.most (length p) end (length run) (length q.rest) l refl room.long (omega arith) in
                let whole : take (length run - end) (drop end run) ≡ q.rest = ap (take (length run - end)) (rest_left ts q) ∙ take_all (length run - end) q.rest (omega arith) in
                let out-is : out ≡ p ++ drop (length p) q.rest = w ∙ ap (written_in p) whole ∙ write_fits p q.rest room_for_lem in
                let nothing : drop (length run - end) (drop end run) ≡ [] = ap (drop (length run - end)) (rest_left ts q) ∙ drop_of_length-le q.rest {i = length run - end} (omega arith) in
                record {
                  sizes = one_size ts q.sizes;
                  count = omega (arith, length-append ts (p ∷ []), all_there ts q);
                  rest = drop (length p) q.rest;
                  front =
                      ap (λ (l : List ℕ). take end run ++ (out ++ l)) nothing
                      ∙ ap (λ (l : List ℕ). take end run ++ l) (append-nil out ∙ out-is)
                      ∙ ap (λ (l : List ℕ). l ++ (p ++ drop (length p) q.rest)) (front_taken ts q)
                      ∙ sym (joined_one ts p (drop (length p) q.rest))
                      ∙ ap (λ (l : List Plan). joined l ++ drop (length p) q.rest) (sym (take_all more.most (ts ++ (p ∷ [])) (omega (arith, length-append ts (p ∷ []), all_there ts q))));
                }

-- ── by its price ──
-- nothing is noted yet
pub nothing_noted : (n : ℕ) (run : List ℕ) (most : ℕ) → Stored n (record { most = most; count = 0 }) run []
unfolding joined
nothing_noted n run most = record { sizes = tt; count = omega arith; rest = run; front = ap (λ (l : List Plan). joined l ++ run) (sym (take-nil most)) }

module _ (p : Plan) (run : List ℕ) (ties : Ties) (best : Option Price) (price : Price) {o : Ordering} (e : o ≡ compared best price) where
  abbrev none : Ties
  none = record { most = ties.most; count = 0 }

  tests : {k : Ordering} → o ≡ k → (is_lower best price ≡ is_lt k) × (is_equal best price ≡ is_eq k)
  tests is = let f = sym e ∙ is in (lower_is best price ∙ ap is_lt f, equal_is best price ∙ ap is_eq f)

  pub retie_lower : o ≡ Less → {r : Ties} {run' : List ℕ} → Notes p run none r run' → Reties p run ties best price r run'
  unfolding noted_by stands_in
  retie_lower is x = record { most = x.most; stores = λ ts q. rw (tests is).0 (x.stores [] (nothing_noted (length p) run ties.most)) }

  pub retie_equal : o ≡ Equal → {r : Ties} {run' : List ℕ} → Notes p run ties r run' → Reties p run ties best price r run'
  retie_equal is x = record { most = x.most; stores = λ ts q. rw ((tests is).0, (tests is).1) (x.stores ts q) }

  pub retie_higher : o ≡ Greater → Reties p run ties best price ties run
  unfolding noted_by
  retie_higher is = record { most = refl; stores = λ ts q. rw ((tests is).0, (tests is).1) q }
