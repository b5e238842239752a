-- The answer of `read`, where it and the room afterwards are the reader's.
--
-- In order: the hall of an accepted file has the devices that the file declares (`accepted_devices`), each with the cost 1
-- (`accepted_ones`), and is within every range (`accepted_ranges`), so that its words are a sheet of it (`accepted_sheet`); an answer that
-- is the reader's meets the contract (`justified`, `files_so`). Assumes nothing.
use mathlib.Core.Path.{◌≡◌, sym, ◌∙◌, ap, subst}
use mathlib.Core.List.{List, []}
use Prim.Native.Nat.{ℕ, ◌≤◌}
use native.Mathlib.Omega.{arith}
use lib.ListN.{length, take, replicate, length-replicate}
use lib.IntN.{ℤ}
use Rattle.std.proofs.Common.{Result}
use Rattle.refusals.specs.declared.Refused.{Refused}
use Rattle.lists.specs.Lists.{Each}
use Rattle.lists.proofs.Each.{each_replicate}
use Rattle.lists.proofs.InFront.{front_stands}
use Rattle.hall.specs.Hall.{Hall}
use Rattle.hall.specs.Ranges.{RuleInRange, HallInRange, words, SheetOf}
use Rattle.dimacs.specs.declared.Flaw.{Flaw}
use Rattle.dimacs.specs.Stage.{inside, sheet_so_far}
use Rattle.dimacs.specs.File.{Parsed, refused, file, read_file}
use Rattle.dimacs.specs.Standing.{Accepted}
use Rattle.dimacs.specs.Contract.{filed_of, numbers_of, room_after, Justified, Files}
use Rattle.dimacs.proofs.SoFar.{sheet_words}
use Rattle.dimacs.proofs.Numbers.{Verdict}
use Rattle.dimacs.proofs.Verdicts.{verdict}

-- ── the hall of an accepted file ──
module _ {text : List ℕ} {room : ℕ} {h : Hall} (a : Accepted text room h) where
  pub accepted_devices : length h.costs ≡ a.n
  accepted_devices = ap (λ (h : Hall). length h.costs) a.hall ∙ length-replicate a.n 1

  pub accepted_ones : h.costs ≡ replicate (length h.costs) 1
  accepted_ones = ap (λ (h : Hall). h.costs) a.hall ∙ ap (λ (n : ℕ). replicate n 1) (sym accepted_devices)

  accepted_ranges : HallInRange h
  accepted_ranges =
      let ranges = a.stands.ranges in
      let n : length (replicate {A = ℕ} a.n 1) ≡ a.n = length-replicate a.n 1 in
      subst HallInRange (sym a.hall)
      (record {
        devices = omega (arith, ranges.devices, n);
        cheap = each_replicate (λ (c : ℕ). c ≤ 1000000000) a.n 1 (omega arith);
        count = ranges.count;
        good = subst (λ (k : ℕ). Each (RuleInRange k) a.rules) (sym n) ranges.good;
      })

  accepted_sheet : {ws : List ℤ} → ws ≡ words h → (plan : ℕ) → length h.costs ≤ plan → SheetOf h ws plan
  accepted_sheet e plan l =
      let whole : sheet_so_far (inside a.n (length a.rules) a.rules []) ≡ words h = sheet_words a.n a.rules ∙ ap words (sym a.hall) in
      record { sheet = e; ranges = accepted_ranges; short = omega (arith, a.stands.short, ap length whole, ap length e); fits = l }

-- ── the reader's answer ──
justified : (text : List ℕ) (before after : List ℤ) (x : Parsed) → Verdict text (length before) x → after ≡ room_after x before
    → Justified text (length before) (filed_of x) after
justified text before after (refused f i) v room = v
justified text before after (file h) v room =
    record { hall = h; accepted = v; sheet = accepted_sheet v (ap (take (length (words h))) room ∙ front_stands (words h) before) }

pub files_so : {text : List ℕ} {before after : List ℤ} {r : Result ℕ (Refused Flaw)} → r ≡ filed_of (read_file text (length before))
    → after ≡ room_after (read_file text (length before)) before
    → Files text before r after
files_so {text} {before} {after} e room = record {
  says = ap numbers_of e;
  room = room;
  reason =
      subst (λ (r : Result ℕ (Refused Flaw)). Justified text (length before) r after) (sym e)
      (justified text before after (read_file text (length before)) (verdict text (length before)) room);
}
