-- The second pass over a text: the words written, with those left, are all of its words.
--
-- In order: what the loop knows (`Filling`), that there is a word for the next place (`filling_found`), and what it knows with that
-- word written (`filling_more`). Assumes nothing.
use mathlib.Core.Path.{◌≡◌, refl, sym, ◌∙◌, ap}
use mathlib.Core.List.{List, [], ◌∷◌, ◌++◌, append_assoc}
use Prim.Native.Nat.{ℕ, ◌+◌, ◌-◌, ◌<◌}
use native.Mathlib.Omega.{arith}
use native.Mathlib.Numerals.{add-one}
use lib.ListN.{length, take, set}
use lib.Seq.{take-suc-set}
use lib.IntN.{ℤ}
use Rattle.std.proofs.Common.{Option, Some, None, Result, Ok, Err}
use Rattle.refusals.specs.declared.Refused.{Refused}
use Rattle.typed.specs.Text.{Read, refused, got, then, tokens, tokens_at, read_tokens}
use Rattle.typed.specs.Next.{next_of}
use Rattle.typed.specs.declared.Mistake.{Mistake}
use Rattle.typed.specs.declared.Found.{Found}
use Rattle.typed.proofs.Taking.{read_end, read_bad, read_more}

-- of so many words in all, n are written
pub record Filling (text : List ℕ) (all i n : ℕ) (now : List ℤ) : Type 0 where
  pub left : List ℤ
  pub size : n + length left ≡ all
  pub rest : read_tokens (all - n) (tokens_at text i) ≡ got left
  pub whole : read_tokens all (tokens text) ≡ got (take n now ++ left)

module _ {text : List ℕ} {all i n : ℕ} {now : List ℤ} (g : Filling text all i n now) where
  module _ (h : n < all) where
    -- the next word is there
    pub filling_found : {r : Result (Option Found) (Refused Mistake)} → r ≡ next_of (tokens_at text i) → (f : Found) × (r ≡ Ok (Some f))
    filling_found {r = Ok (Some f)} e = (f, refl)
    filling_found {r = Ok None} e =
        absurd (let none : got [] ≡ got g.left = sym (read_end text i (all - n) e) ∙ g.rest in let none : [] ≡ g.left = cc in omega (arith, ap length none, g.size))
    filling_found {r = Err r} e = absurd (let z = sym (read_bad text i (all - n) e) ∙ g.rest in cc)

    -- the code stores what the machine reads back from the word's bits
    pub filling_more : {f : Found} → Ok (Some f) ≡ next_of (tokens_at text i) → {z : ℤ} → z ≡ f.word → n < length now
        → Filling text all f.end (n + 1) (set now n z)
    filling_more {f} e {z} q l = go (read_tokens (all - n - 1) (tokens_at text f.end)) refl (sym (read_more text i e (all - n) (omega arith)) ∙ g.rest)
      where
        go : (x : Read (List ℤ)) → read_tokens (all - n - 1) (tokens_at text f.end) ≡ x → then x (λ zs. got (f.word ∷ zs)) ≡ got g.left
            → Filling text all f.end (n + 1) (set now n z)
        go (refused m place) x e = absurd (cc)
        go (got zs) x e =
            let left : f.word ∷ zs ≡ g.left = cc in
            let k : all - (n + 1) ≡ all - n - 1 = omega arith in
            record {
              left = zs;
              size = omega (arith, ap length left, g.size);
              rest = ap (λ (k : ℕ). read_tokens k (tokens_at text f.end)) k ∙ x;
              whole =
                  g.whole
                  ∙ ap got
                  (sym
                  (ap (λ (k : ℕ). take k (set now n z) ++ zs) (add-one n)
                  ∙ ap (λ (l : List ℤ). l ++ zs) (take-suc-set now n z l)
                  ∙ append_assoc (take n now) (z ∷ []) zs
                  ∙ ap (λ (l : List ℤ). take n now ++ l) (ap (λ (y : ℤ). y ∷ zs) q ∙ left)));
            }
