-- From the lines of clauses to the contract of `write`.
--
-- In order: the text of a coded hall in the edition before 2022 (`before_puts`); a refused sheet (`write_refused`); an accepted
-- sheet: its hall can be written from the arrays (`write_few`, `write_loaded`), and its text is too long for the lent room
-- (`write_short`, where the code of a short room is 41; all else holds of any code) or goes there (`write_text`). Assumes nothing.
use mathlib.Core.Path.{◌≡◌, refl, sym, ◌∙◌, ap, subst}
use mathlib.Core.Bool.{Bool}
use mathlib.Core.List.{List, [], ◌∷◌, ◌++◌}
use mathlib.Core.Option.{some}
use Prim.Native.Nat.{ℕ, zero, suc, ◌+◌, ◌*◌, ◌≤◌, ◌<◌}
use native.Mathlib.Omega.{arith}
use lib.ListN.{length, take, drop, replicate, length-take, length-replicate}
use lib.Seq.{sets}
use Rattle.std.specs.Prelude.{Result, Ok, Err, IsErrAnd}
use Rattle.std.proofs.lemmas.Result.{err_from_is_err_and}
use lib.IntN.{ℤ}
use lib.Dec.{ltb}
use borrow.Author.Tests.{lt-ltb, le-ltb}
use Rattle.io.specs.Digits.{last_digits, IsDigitCount}
use Rattle.lists.specs.Bytes.{bytes}
use Rattle.lists.proofs.InFront.{front_stands, sets_in_front}
use Rattle.hall.specs.Hall.{Hall, leave_out}
use Rattle.hall.proofs.Reasons.{Verdict, verdict}
use Rattle.refusals.specs.declared.Refusal.{Refusal}
use Rattle.refusals.specs.declared.Refused.{Refused}
use Rattle.refusals.specs.declared.RoomRefusal.{RoomRefusal}
use Rattle.refusals.specs.declared.RoomRefusal.TheVariants.{BadSheet, ShortRoom}
use Rattle.sheet.specs.Coded.{rules_of}
use Rattle.sheet.specs.declared.Size.{Size}
use Rattle.needed.specs.Contract.{ReadsNeeded}
use Rattle.needed.specs.Loaded.{Loaded}
use Rattle.needed.specs.Rules.{hall_in}
use Rattle.needed.specs.declared.coded.Coded.{Coded}
use Rattle.needed.proofs.Lying.{read_refused, Lies, read_lies, lies_front, lies_loaded}
use Rattle.typed.specs.Printing.{digits_of}
use Rattle.printing.specs.declared.Page.{Page}
use Rattle.printing.specs.Lines.{line}
use Rattle.printing.specs.Contract.{Puts, PutsLine}
use Rattle.printing.proofs.Digits.{decimal_is}
use Rattle.printing.proofs.Putting.{puts_then}
use Rattle.rails.specs.Weighted.{Clause, top}
use Rattle.rails.specs.Rails.{encoded, clauses, variables}
use Rattle.rails.proofs.Sizes.{top_twice, clause_number}
use Rattle.rails.proofs.Encoding.{encodes}
use Rattle.wcnf.specs.declared.Edition.{Edition}
use Rattle.wcnf.specs.declared.Edition.TheVariants.{Before2022}
use Rattle.wcnf.specs.Wcnf.{clause_lines, text_of, wcnf, Writing, writing_by, writing_read, writing}
use Rattle.wcnf.specs.Format.{read_wcnf}
use Rattle.wcnf.specs.Steps.{Totalled}
use Rattle.wcnf.specs.Contract.{numbers_written, room_after, Writes}
use Rattle.wcnf.proofs.WrittenBack.{reads_back}
use Rattle.wcnf.proofs.WrittenSize.{text_fits}

-- ── the text of a coded hall ──
rules_length : (codes starts : List ℕ) (r left : ℕ) → length (rules_of codes starts r left) ≡ left
unfolding rules_of
rules_length codes starts r zero = refl
rules_length codes starts r (suc left) = ap suc (rules_length codes starts (r + 1) left)

module _ (edition : Edition) (h : Coded) (before after : Page) where
  abbrev costs : List ℕ
  costs = h.costs.now

  abbrev cs : List Clause
  cs = encoded (hall_in h).rules costs

  pub before_puts : edition ≡ Before2022 → (sum number : ℕ) → Totalled h.costs.now sum number → (next : Page)
      → PutsLine (bytes "p wcnf") ((2 * length h.costs.now) ∷ (h.rules + length h.costs.now + 2 * number) ∷ (2 * sum + 1) ∷ []) before next
      → (k : ℕ) (text : List ℕ) → IsDigitCount 10 1 (2 * sum + 1) k → take k text ≡ last_digits 10 k (2 * sum + 1)
      → Puts (clause_lines (take k text) (encoded (hall_in h).rules h.costs.now)) next after
      → Puts (text_of edition (variables (hall_in h)) (encoded (hall_in h).rules h.costs.now)) before after
  before_puts e sum number t next p k text few spelled q =
      let rs = (hall_in h).rules in
      let a : 2 * length costs ≡ length costs + length costs = omega arith in
      let b : h.rules + length costs + 2 * number ≡ length cs = omega (arith, clause_number rs costs, rules_length h.codes.now h.starts.now 0 h.rules, t.above) in
      let c : 2 * sum + 1 ≡ top cs = omega (arith, top_twice rs costs, t.all) in
      let start : take k text ≡ digits_of (top cs) = spelled ∙ decimal_is (2 * sum + 1) k few ∙ ap digits_of c in
      let first : (2 * length costs) ∷ (h.rules + length costs + 2 * number) ∷ (2 * sum + 1) ∷ [] ≡ (length costs + length costs) ∷ length cs ∷ top cs ∷ [] = rw (a, b, c) in
      rw e
      (puts_then (subst (λ (ns : List ℕ). Puts (line (bytes "p wcnf") digits_of ns) before next) first p.puts)
      (subst (λ (s : List ℕ). Puts (clause_lines s cs) next after) start q))

module _ {ws : List ℤ} (edition : Edition) {costs codes starts costs' codes' starts' : List ℕ} (before : List ℕ) {s : Result Size (Refused Refusal)}
    (d : ReadsNeeded ws 200 costs codes starts s costs' codes' starts') where
  -- ── a refused sheet ──
  pub write_refused : {code : ℕ} (e : Refused Refusal) → s ≡ Err e → (o : Refused (RoomRefusal code)) → o.place ≡ e.place → o.kind ≡ BadSheet e.kind
      → (r : Result ℕ (Refused (RoomRefusal code))) → IsErrAnd r (λ x. x ≡ o) → Writes ws edition before r before
  unfolding writing
  write_refused e u o place kind r f =
      let is = ap (writing_read edition (length before)) (read_refused d u) in
      let same = err_from_is_err_and r f in
      rw (same.1, same.2)
      (record {
        says = rw (place, kind) (sym (ap numbers_written is));
        room = sym (ap (λ (w : Writing). room_after w before) is);
        reason = rw (place, kind) (subst (Verdict ws 200) (read_refused d u) (verdict ws 200));
      })

  -- ── an accepted sheet ──
  module _ {size : Size} (e : s ≡ Ok size) where
    lies : Lies ws 200 size.devices size.rules costs' codes' starts'
    lies = read_lies d e

    pub write_few : size.devices ≡ length (take size.devices costs')
    write_few = let few = lies.few in omega (arith, length-take size.devices costs')

    pub write_loaded : Loaded (take size.devices costs') codes' starts' size.rules
    write_loaded = lies_loaded lies

    written : List ℕ
    written = wcnf edition lies.whole

    module _ (start end : Page) (at_front : start.at ≡ 0) (blank : start.room.now ≡ replicate 100000 0)
        (p : Puts (text_of edition (length (take size.devices costs') + length (take size.devices costs')) (encoded (rules_of codes' starts' 0 size.rules) (take size.devices costs'))) start end) where
      text_is : Puts written start end
      unfolding written wcnf clauses
      text_is =
          let rules_are : rules_of codes' starts' 0 size.rules ≡ leave_out lies.whole.rules = ap (λ (g : Hall). g.rules) lies.back in
          rw (rules_are, lies_front lies) at p

      room_size : length start.room.now ≡ 100000
      room_size = ap length blank ∙ length-replicate {A = ℕ} 100000 0

      short : length written ≤ 98957
      unfolding written
      short = text_fits lies.sheet_of_lem edition

      size_is : end.at ≡ length written
      size_is = let e = text_is.stores.ends in omega (arith, room_size, short)

      -- what is to be written for the sheet
      writing_is : writing edition ws (length before) ≡ writing_by (ltb (length before) (length written)) written
      unfolding writing written
      writing_is = ap (writing_read edition (length before)) lies.is

      pub write_short : {code : ℕ} → code ≡ 41 → length before < end.at → Writes {code = code} ws edition before (Err (record { kind = ShortRoom; place = end.at })) before
      unfolding written
      write_short code_is h =
          let t = lt-ltb (length before) (length written) (omega (arith, size_is)) in
          let is = writing_is ∙ ap (λ (b : Bool). writing_by b written) t in
          record {
            says = ap (λ (c : ℕ). c ∷ end.at ∷ []) code_is ∙ ap (λ (k : ℕ). 41 ∷ k ∷ []) size_is ∙ sym (ap numbers_written is);
            room = sym (ap (λ (w : Writing). room_after w before) is);
            reason = record { hall = lies.whole; sheet = lies.sheet_of_lem; size = size_is; short = h };
          }

      back : read_wcnf edition written ≡ some (record { variables = variables lies.whole; clauses = clauses lies.whole })
      unfolding written
      back = reads_back edition lies.whole lies.sheet_of_lem.ranges

      pub write_text : {code : ℕ} → end.at ≤ length before → (part : List ℕ) → part ≡ take end.at end.room.now → Writes {code = code} ws edition before (Ok end.at) (part ++ drop end.at before)
      write_text h part q =
          let t = le-ltb (length before) (length written) (omega (arith, size_is)) in
          let is = writing_is ∙ ap (λ (b : Bool). writing_by b written) t in
          let fits : length written ≤ length start.room.now = omega (arith, room_size, short) in
          let front_is : part ≡ written =
          q ∙ ap (λ (k : ℕ). take k end.room.now) size_is ∙ ap (take (length written)) (text_is.stores.leaves ∙ ap (λ (k : ℕ). sets start.room.now k written) at_front ∙ sets_in_front written start.room.now fits) ∙ front_stands written start.room.now in
          rw (front_is, size_is)
          (record {
            says = sym (ap numbers_written is);
            room = sym (ap (λ (w : Writing). room_after w before) is);
            reason = record {
              hall = lies.whole;
              sheet = lies.sheet_of_lem;
              says = ap (read_wcnf edition) (front_stands written before) ∙ back;
              encodes = encodes lies.whole lies.sheet_of_lem.ranges;
            };
          })
