-- The chunks of a run are its plans: the kit's `chunks_exact` gives the plans in a run, first to last (`plans_come`). Assumes nothing.
use mathlib.Core.Path.{◌≡◌, refl, ◌∙◌, ap, subst}
use mathlib.Core.List.{List, ◌∷◌, ◌++◌}
use Prim.Native.Nat.{ℕ, ◌<◌}
use native.Mathlib.Omega.{arith}
use lib.ListN.{length, length-append}
use lib.Seq.{take_at, drop_at}
use Rattle.std.specs.Slice.Iter.{chunks_exact_rest, chunks_exact_size, chunks_exact_steps}
use Rattle.std.proofs.lemmas.Iterator.{YieldsList}
use Rattle.std.proofs.lemmas.Iterator.Splits.{YieldsList-from_shown_while}
use Rattle.plans.specs.Runs.{plans_in}
use Rattle.plans.proofs.Runs.{whole, no_whole}

-- one chunk in front of the others; no whole chunk
chunk_more : (size : ℕ) (rest chunk rest' : List ℕ) → 0 < size → rest ≡ chunk ++ rest' → length chunk ≡ size → plans_in size rest ≡ chunk ∷ plans_in size rest'
chunk_more size rest chunk rest' s e l =
    rw e
    (whole size (chunk ++ rest') s (omega (arith, length-append chunk rest'))
    ∙ rw (take_at chunk rest' size l, drop_at chunk rest' size l) refl)

pub plans_come : (n : ℕ) (run : List ℕ) {s : _} → 0 < n → chunks_exact_rest s ≡ run → chunks_exact_size s ≡ n
    → YieldsList (chunks_exact_steps {A = ℕ}) (λ x. x.now) s (plans_in n run)
plans_come n run {s} some rest size =
    subst (λ (p : ℕ × List ℕ). YieldsList chunks_exact_steps (λ x. x.now) s (plans_in p.0 p.1)) (λ i. (size i, rest i))
    (YieldsList-from_shown_while chunks_exact_steps (λ x. x.now) (λ t. plans_in (chunks_exact_size t) (chunks_exact_rest t)) (λ t. 0 < chunks_exact_size t)
    (λ t u h k. ap length (no_whole (chunks_exact_size t) (chunks_exact_rest t) k.1.0))
    (λ t x u h k. (rw k.0 h, rw k.0 (chunk_more (chunks_exact_size t) (chunks_exact_rest t) x.now (chunks_exact_rest u) h k.1.0 k.1.1)))
    s (rw size some))
