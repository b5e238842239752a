-- The whole reading, as the code puts it together.
--
-- In order: a text that is too long (`too_long_lem`); a header that is missing (`header_missing`), counts
-- that are refused (`counts_refused`), clauses that are refused (`clauses_refused`), and a file that is filed (`scan_fits`,
-- `counts_fit`, `fill_fits`, `filed`). Assumes nothing.
use mathlib.Core.Path.{◌≡◌, refl, sym, ◌∙◌, ap, subst}
use mathlib.Core.List.{List, []}
use Prim.Native.Nat.{ℕ, ◌+◌, ◌≤◌, ◌<◌}
use native.Mathlib.Omega.{arith}
use lib.ListN.{length, take}
use lib.IntN.{ℤ}
use Rattle.std.proofs.Common.{Ok, Err}
use Rattle.refusals.specs.declared.Refused.{Refused}
use Rattle.lists.specs.Lists.{in_front}
use Rattle.lists.proofs.InFront.{front_stands, room_as_long, front_again}
use Rattle.hall.specs.Hall.{Hall}
use Rattle.hall.specs.Ranges.{words}
use Rattle.typed.specs.Text.{tokens_at}
use Rattle.typed.specs.declared.Mistake.TheVariants.{TooLong}
use Rattle.dimacs.specs.declared.Flaw.{Flaw}
use Rattle.dimacs.specs.declared.Flaw.TheVariants.{Text}
use Rattle.dimacs.specs.Stage.{variables, inside, sheet_so_far}
use Rattle.dimacs.specs.File.{Parsed, refused, file, limit_of, read_numbers, read_file}
use Rattle.dimacs.specs.Contract.{filed_of, room_after, Files}
use Rattle.dimacs.specs.Steps.{HeaderIs, CountsFound, CountsAre, ScanFits, FillFits}
use Rattle.dimacs.proofs.Limits.{short_enough, over_long, limit_holds}
use Rattle.dimacs.proofs.Answers.{files_so}
use Rattle.dimacs.proofs.SoFar.{counts_long}

-- the limit is within the room, and within a sheet
limit_within : (room : ℕ) → (limit_of room ≤ room) × (limit_of room ≤ 16384)
limit_within room = (limit_holds room (limit_of room)).0 (omega arith)

-- where the answer is a refusal, the room is as it was
refused_kept : {text : List ℕ} {before : List ℤ} (r : Refused Flaw) → read_file text (length before) ≡ refused r.kind r.place → Files text before (Err r) before
refused_kept {before = before} r e = files_so (sym (ap filed_of e)) (sym (ap (λ (x : Parsed). room_after x before) e))

pub too_long_lem : {text : List ℕ} {before : List ℤ} → 60000 < length text → Files text before (Err (record { kind = Text TooLong; place = 60000 })) before
too_long_lem {text} {before} h = refused_kept (record { kind = Text TooLong; place = 60000 }) (over_long text (length before) h)

module _ (text : List ℕ) (before : List ℤ) (short : length text ≤ 60000) where
  pub header_missing : (r : Refused Flaw) → HeaderIs text (Err r) → Files text before (Err r) before
  header_missing r h = refused_kept r (short_enough text (length before) short ∙ h (limit_of (length before)))

  module _ (limit : ℕ) (l : limit ≡ limit_of (length before)) (from : ℕ) (h : HeaderIs text (Ok from)) where
    behind_header : read_file text (length before) ≡ read_numbers limit (length text) variables (tokens_at text from)
    behind_header =
        short_enough text (length before) short
        ∙ h (limit_of (length before))
        ∙ ap (λ (n : ℕ). read_numbers n (length text) variables (tokens_at text from)) (sym l)

    pub counts_refused : (r : Refused Flaw) → CountsAre text from limit (Err r) → Files text before (Err r) before
    counts_refused r k = refused_kept r (behind_header ∙ k)

    module _ {n m at : ℕ} (counts : CountsFound text from limit n m at) where
      pub scan_fits : ScanFits n limit
      scan_fits = record { fits = counts.fits; short = omega (arith, l, (limit_within (length before)).1) }

      pub counts_fit : n + 2 ≤ length before
      counts_fit = omega (arith, l, counts.fits, (limit_within (length before)).0)

      abbrev behind_counts : Parsed
      behind_counts = read_numbers limit (length text) (inside n m [] []) (tokens_at text at)

      pub clauses_refused : (r : Refused Flaw) → Err r ≡ filed_of behind_counts → Files text before (Err r) before
      clauses_refused r v = go behind_counts refl v
        where
          go : (x : Parsed) → behind_counts ≡ x → Err r ≡ filed_of x → Files text before (Err r) before
          go (refused f i) w z =
              let is : record { kind = f; place = i } ≡ r = cc in
              refused_kept r (behind_header ∙ counts.rest ∙ w ∙ ap (λ (r : Refused Flaw). refused r.kind r.place) is)
          go (file x) w z = absurd (cc)

      module _ {w : ℕ} (v : Ok w ≡ filed_of behind_counts) where
        the_hall : (hall : Hall) × (behind_counts ≡ file hall)
        the_hall = go behind_counts refl v
          where
            go : (x : Parsed) → behind_counts ≡ x → Ok w ≡ filed_of x → (hall : Hall) × (behind_counts ≡ file hall)
            go (refused f i) e z = absurd (cc)
            go (file x) e z = (x, e)

        -- the counts were put
        module _ {now : List ℤ} (p : now ≡ in_front (sheet_so_far (inside n m [] [])) before) where
          long : length now ≡ length before
          long = ap length p ∙ room_as_long (sheet_so_far (inside n m [] [])) before (omega (arith, counts_long n m, counts_fit))

          same_limit : limit ≡ limit_of (length now)
          same_limit = l ∙ ap limit_of (sym long)

          the_read : read_numbers (limit_of (length now)) (length text) (inside n m [] []) (tokens_at text at) ≡ file the_hall.0
          the_read = ap (λ (k : ℕ). read_numbers k (length text) (inside n m [] []) (tokens_at text at)) (sym same_limit) ∙ the_hall.1

          pub fill_fits : FillFits text at n m now
          fill_fits = record {
            scan = subst (ScanFits n) same_limit scan_fits;
            counts =
                ap (take (n + 2)) p
                ∙ ap (λ (k : ℕ). take k (in_front (sheet_so_far (inside n m [] [])) before)) (sym (counts_long n m))
                ∙ front_stands (sheet_so_far (inside n m [] [])) before;
            hall = the_hall.0;
            read = the_read;
          }

          pub filed : n + 2 ≤ w → {after : List ℤ}
              → after ≡ room_after (read_numbers (limit_of (length now)) (length text) (inside n m [] []) (tokens_at text at)) now
              → Files text before (Ok w) after
          filed some {after} a =
              let hall = the_hall.0 in
              let told : Ok w ≡ Ok (length (words hall)) = v ∙ ap filed_of the_hall.1 in
              let size : w ≡ length (words hall) = cc in
              let whole : read_file text (length before) ≡ file hall = behind_header ∙ counts.rest ∙ the_hall.1 in
              files_so (told ∙ sym (ap filed_of whole))
              (a
              ∙ ap (λ (x : Parsed). room_after x now) the_read
              ∙ ap (in_front (words hall)) p
              ∙ front_again (sheet_so_far (inside n m [] [])) (words hall) before (omega (arith, counts_long n m))
              ∙ sym (ap (λ (x : Parsed). room_after x before) whole))
