-- The numbers of a file, one at a time.
--
-- In order: the text ends (`numbers_end`); the next token is no number (`numbers_bad`), is refused (`numbers_flaw`), leads on
-- (`numbers_on`), or has no room (`numbers_full`); what the next number tells (`flawed_ok`, `numbers_mistaken`,
-- `found_flaw`, `found_on`, `found_full`). Assumes nothing.
use mathlib.Core.Path.{◌≡◌, refl, sym, ◌∙◌, ap}
use mathlib.Core.Bool.{Bool}
use mathlib.Core.List.{List, [], ◌∷◌}
use Prim.Native.Nat.{ℕ, ◌≤◌, ◌<◌}
use lib.ListN.{length}
use lib.IntN.{ℤ}
use lib.Dec.{leb}
use borrow.Author.Tests.{le-leb, lt-leb}
use Rattle.std.proofs.Common.{Option, Result, Ok, Err}
use Rattle.refusals.specs.declared.Refused.{Refused}
use Rattle.typed.specs.Text as typed
use Rattle.typed.specs.Text.{Token, tokens_at, value_of}
use Rattle.typed.specs.Next.{next_of}
use Rattle.typed.specs.declared.Found.{Found}
use Rattle.typed.proofs.Splitting.{next_bad}
use Rattle.typed.specs.declared.Mistake.{Mistake}
use Rattle.typed.specs.declared.Mistake.TheVariants.{NoRoom}
use Rattle.dimacs.specs.declared.Flaw.{Flaw}
use Rattle.dimacs.specs.declared.Flaw.TheVariants.{Text}
use Rattle.dimacs.specs.Stage.{Stage, sheet_so_far}
use Rattle.dimacs.specs.File.{Parsed, refused, Step, flaw, on, taken, valued, stepped, fits_by, ended_at, read_numbers}
use Rattle.dimacs.specs.Steps.{flawed}

module _ (limit end : ℕ) (s : Stage) where
  pub numbers_end : read_numbers limit end s [] ≡ ended_at end s
  unfolding read_numbers
  numbers_end = refl

  module _ (t : Token) (ts : List Token) where
    abbrev leading : Stage → Parsed
    leading next = fits_by (leb (length (sheet_so_far next)) limit) t.place (read_numbers limit end next ts)

    pub numbers_bad : (m : Mistake) (place : ℕ) → value_of t ≡ typed.refused m place → read_numbers limit end s (t ∷ ts) ≡ refused (Text m) place
    unfolding read_numbers
    numbers_bad m place e = ap (λ (x : typed.Read ℤ). valued x λ z. stepped t.place (taken s z) leading) e

    module _ (z : ℤ) (e : value_of t ≡ typed.got z) where
      by_step : {step : Step} → taken s z ≡ step → read_numbers limit end s (t ∷ ts) ≡ stepped t.place step leading
      unfolding read_numbers
      by_step q =
          ap (λ (x : typed.Read ℤ). valued x λ z. stepped t.place (taken s z) leading) e
          ∙ ap (λ (step : Step). stepped t.place step leading) q

      pub numbers_flaw : (f : Flaw) → taken s z ≡ flaw f → read_numbers limit end s (t ∷ ts) ≡ refused f t.place
      numbers_flaw f q = by_step q

      module _ (next : Stage) (q : taken s z ≡ on next) where
        pub numbers_on : length (sheet_so_far next) ≤ limit → read_numbers limit end s (t ∷ ts) ≡ read_numbers limit end next ts
        numbers_on h = by_step q ∙ ap (λ (b : Bool). fits_by b t.place (read_numbers limit end next ts)) (le-leb _ limit h)

        pub numbers_full : limit < length (sheet_so_far next) → read_numbers limit end s (t ∷ ts) ≡ refused (Text NoRoom) t.place
        numbers_full h = by_step q ∙ ap (λ (b : Bool). fits_by b t.place (read_numbers limit end next ts)) (lt-leb _ limit h)

-- ── the next number ──
pub flawed_ok : {o : Option Found} {x : Result (Option Found) (Refused Mistake)} → Ok o ≡ flawed x → Ok o ≡ x
flawed_ok {x = Ok p} e = cc
flawed_ok {x = Err m} e = cc

module _ (text : List ℕ) (i limit : ℕ) (s : Stage) where
  pub numbers_mistaken : {r : Refused Flaw} → Err r ≡ flawed (next_of (tokens_at text i)) → read_numbers limit (length text) s (tokens_at text i) ≡ refused r.kind r.place
  numbers_mistaken {r} e = go (next_of (tokens_at text i)) refl e
    where
      go : (x : Result (Option Found) (Refused Mistake)) → next_of (tokens_at text i) ≡ x → Err r ≡ flawed x
          → read_numbers limit (length text) s (tokens_at text i) ≡ refused r.kind r.place
      go (Ok o) q v = absurd (cc)
      go (Err m) q v =
          let f = next_bad text i {r = m} (sym q) in
          let is : record { kind = Text m.kind; place = m.place } ≡ r = cc in
          ap (read_numbers limit (length text) s) f.first
          ∙ numbers_bad limit (length text) s f.token f.rest m.kind m.place f.says
          ∙ ap (λ (r : Refused Flaw). refused r.kind r.place) is

-- a token that is found, and the number that it says
module _ (text : List ℕ) (i end : ℕ) {t : Token} (first : tokens_at text i ≡ t ∷ tokens_at text end) {z : ℤ} (e : value_of t ≡ typed.got z) (limit : ℕ) (s : Stage) where
  pub found_flaw : (f : Flaw) → taken s z ≡ flaw f → read_numbers limit (length text) s (tokens_at text i) ≡ refused f t.place
  found_flaw f q = rw first (numbers_flaw limit (length text) s t (tokens_at text end) z e f q)

  module _ (next : Stage) (q : taken s z ≡ on next) where
    pub found_on : length (sheet_so_far next) ≤ limit
        → read_numbers limit (length text) s (tokens_at text i) ≡ read_numbers limit (length text) next (tokens_at text end)
    found_on h = rw first (numbers_on limit (length text) s t (tokens_at text end) z e next q h)

    pub found_full : limit < length (sheet_so_far next) → read_numbers limit (length text) s (tokens_at text i) ≡ refused (Text NoRoom) t.place
    found_full h = rw first (numbers_full limit (length text) s t (tokens_at text end) z e next q h)
