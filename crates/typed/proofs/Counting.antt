-- The first pass over a text: what is left of it, with the words counted, answers what the whole answers.
--
-- In order: the answer with some words counted (`counted_on`); what the loop knows (`Counting`), at each of its ends (`counting_end`,
-- `counting_bad`, `counting_full`) and with one word more (`counting_more`). Assumes nothing.
use mathlib.Core.Path.{◌≡◌, refl, sym, ◌∙◌, ap}
use mathlib.Core.List.{List, ◌∷◌}
use Prim.Native.Nat.{ℕ, ◌+◌, ◌-◌, ◌≤◌, ◌<◌}
use native.Mathlib.Omega.{arith}
use lib.ListN.{length}
use lib.IntN.{ℤ}
use Rattle.std.proofs.Common.{Some, None, Result, Ok, Err}
use Rattle.refusals.specs.declared.Refused.{Refused}
use Rattle.typed.specs.Text.{Read, refused, got, then, tokens, tokens_at, read_tokens}
use Rattle.typed.specs.Next.{next_of}
use Rattle.typed.specs.Answer.{reading_of}
use Rattle.typed.specs.declared.Mistake.{Mistake}
use Rattle.typed.specs.declared.Mistake.TheVariants.{NoRoom}
use Rattle.typed.specs.declared.Found.{Found}
use Rattle.typed.proofs.Taking.{read_end, read_bad, read_full, read_more}

-- the answer to what is left, where so many words were counted before it
abbrev counted_on : ℕ → Read (List ℤ) → Result ℕ (Refused Mistake)
counted_on n (refused m place) = Err (record { kind = m; place = place })
counted_on n (got words) = Ok (n + length words)

counted_one : (n : ℕ) (z : ℤ) (r : Read (List ℤ)) → counted_on n (then r λ zs. got (z ∷ zs)) ≡ counted_on (n + 1) r
counted_one n z (refused m place) = refl
counted_one n z (got words) = ap Ok (omega arith)

pub record Counting (text : List ℕ) (room i n : ℕ) : Type 0 where
  pub holds : n ≤ room
  pub answer : counted_on n (read_tokens (room - n) (tokens_at text i)) ≡ reading_of (read_tokens room (tokens text))

module _ {text : List ℕ} {room i n : ℕ} (c : Counting text room i n) where
  ends_by : {x : Read (List ℤ)} → read_tokens (room - n) (tokens_at text i) ≡ x → counted_on n x ≡ reading_of (read_tokens room (tokens text))
  ends_by e = sym (ap (counted_on n) e) ∙ c.answer

  pub counting_end : Ok None ≡ next_of (tokens_at text i) → Ok n ≡ reading_of (read_tokens room (tokens text))
  counting_end e = ap Ok (omega arith) ∙ ends_by (read_end text i (room - n) e)

  pub counting_bad : {r : Refused Mistake} → Err r ≡ next_of (tokens_at text i) → Err r ≡ reading_of (read_tokens room (tokens text))
  counting_bad e = ends_by (read_bad text i (room - n) e)

  module _ {f : Found} (e : Ok (Some f) ≡ next_of (tokens_at text i)) where
    pub counting_full : room ≤ n → Err (record { kind = NoRoom; place = f.start }) ≡ reading_of (read_tokens room (tokens text))
    counting_full h = ends_by (read_full text i e (room - n) (omega arith))

    pub counting_more : n < room → Counting text room f.end (n + 1)
    counting_more h =
        let k : room - (n + 1) ≡ room - n - 1 = omega arith in
        record {
          holds = omega arith;
          answer =
              ap (λ (k : ℕ). counted_on (n + 1) (read_tokens k (tokens_at text f.end))) k
              ∙ sym (counted_one n f.word (read_tokens (room - n - 1) (tokens_at text f.end)))
              ∙ ends_by (read_more text i e (room - n) (omega arith));
        }
