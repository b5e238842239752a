-- A file is accepted exactly if it stands as it should and fits the room, and each refusal is given for its reason and only for it.
--
-- In order: what is read has the verdict (`Verdict`, in Numbers), from where `cnf` should stand (`from_cnf`, `from_p`), and from where `p`
-- should (`from_first`, `from_lead_lem`); the whole (`verdict`), and nothing else has it (`verdict_only`); the two theorems (`accepted_exactly`,
-- `refused_exactly`). Assumes nothing.
use mathlib.Core.Path.{◌≡◌, refl, sym, ◌∙◌, ap, subst}
use mathlib.Core.Logic.{◌↔◌}
use mathlib.Core.Bool.{Bool, true, false, cond}
use mathlib.Core.List.{List, [], ◌∷◌, ◌++◌}
use Prim.Native.Nat.{ℕ, suc, ◌+◌, ◌≤◌}
use native.Mathlib.Omega.{arith}
use lib.ListN.{length, drop}
use lib.Dec.{ltb}
use borrow.Author.Tests.{ltb-true, ltb-false, lt-ltb, le-ltb}
use Rattle.lists.specs.Bytes.{bytes}
use Rattle.hall.specs.Hall.{Hall}
use Rattle.refusals.specs.declared.Refusal.TheVariants.{TooShort, BadDeviceCount, BadCost, BadEntry, ExtraWords, SmallRoom, BadRuleCount, BadWidth, TooLong as SheetTooLong}
use Rattle.typed.specs.Text.{is_separator, front, Token, tokens_from, placed}
use Rattle.typed.specs.Text as typed
use Rattle.typed.specs.Allowed.{nothing}
use Rattle.typed.specs.declared.Mistake.TheVariants.{TooLong, WrongByte, BadNumber, NoRoom}
use Rattle.typed.proofs.Fronts.{Fails, front_splits, front_each, front_fails}
use Rattle.typed.proofs.Sayings.{says_only}
use Rattle.dimacs.specs.declared.Flaw.TheVariants.{Text, NoHeader, Sheet, NotClosed, ExtraToken}
use Rattle.dimacs.specs.declared.lead.Spot.TheVariants.{LineStart}
use Rattle.dimacs.specs.declared.Flaw.{Flaw}
use Rattle.dimacs.specs.Stage.{variables, sheet_so_far, unit_hall}
use Rattle.dimacs.specs.File.{Parsed, refused, lead_length, limit_of, read_numbers, same_bytes, expected, read_header, read_file, file}
use Rattle.dimacs.specs.Standing.{lined, BehindLead, BehindP, BehindHeader, numbers_to, Standing, Accepted}
use Rattle.dimacs.specs.Reasons.{TokenHere, NoComment, other_p, other_cnf, no_p, no_cnf, Reason}
use Rattle.dimacs.specs.Steps.{headed}
use Rattle.dimacs.proofs.Lined.{lead_lined}
use Rattle.dimacs.proofs.Limits.{short_enough, over_long, limit_over}
use Rattle.dimacs.proofs.HeaderWords.{same_bytes_lem, other_bytes, after_p}
use Rattle.dimacs.proofs.Stepping.{numbers_bad, numbers_full}
use Rattle.dimacs.proofs.Comments.{Begins, lead_tokens, leading}
use Rattle.dimacs.proofs.Places.{within_lead, within_p, end_place, token_here, tokens_here, tokens_behind_lem}
use Rattle.dimacs.proofs.OneNumber.{device_count, rule_count, unnamed, overfull, behind_last, leads_taken}
use Rattle.dimacs.proofs.Behind.{at_token, at_number, at_end, header_fails}
use Rattle.dimacs.proofs.Numbers.{Verdict, from_place}

-- ── the header ──
-- the first byte of a token is that of what stands there
no_comment : (ends : Bool) (token rest : List ℕ) → Begins ends (token ++ rest) → NoComment ends token
no_comment false token rest h = tt
no_comment true [] rest h = tt
no_comment true (b ∷ bs) rest h = h.1

module _ (text : List ℕ) (room : ℕ) (short : length text ≤ 60000) where
  -- the numbers begin behind `cnf`
  stands_first : {place : ℕ} {rest : List ℕ} → BehindHeader (lined text) place rest → Standing (lined text) room variables place rest
  unfolding numbers_to sheet_so_far
  stands_first {place} {rest} header = record {
    first = place;
    tail = rest;
    header = header;
    behind = 0;
    numbers = record { before = []; closed = nothing; whole = refl; size = refl };
    size = omega arith;
    ranges = tt;
    fits = omega arith;
    short = omega arith;
  }

  abbrev behind_p : List Token → Parsed
  behind_p ts = after_p (limit_of room) (length text) ts

  -- the token where `cnf` should stand
  from_cnf : {place : ℕ} {rest token : List ℕ} → BehindP (lined text) place rest → TokenHere rest token
      → Verdict text room (behind_p (tokens_from true place rest))
  from_cnf {place} {rest} {token} p here =
      subst (λ (ts : List Token). Verdict text room (behind_p ts)) (sym (tokens_here here place)) (go (same_bytes (bytes "cnf") token) refl)
    where
      go : (t : Bool) → same_bytes (bytes "cnf") token ≡ t
          → Verdict text room
          (cond t (read_numbers (limit_of room) (length text) variables (tokens_from true (suc (place + length token)) here.after)) (refused NoHeader place))
      go true e =
          let same = same_bytes_lem (bytes "cnf") token e in
          let header : BehindHeader (lined text) (suc (place + length token)) here.after =
          record {
            first = place;
            b = here.b;
            p = subst (BehindP (lined text) place) (here.whole ∙ ap (λ (l : List ℕ). l ++ (here.b ∷ here.after)) same) p;
            blank = here.ends;
            size = omega (arith, ap length same);
          } in
          from_place text room short (suc (length here.after)) here.after variables (suc (place + length token)) (omega arith) (stands_first header)
      go false e = record { short = short; header = other_cnf token p here (other_bytes (bytes "cnf") token e) }

  from_p : {place : ℕ} (rest : List ℕ) → BehindP (lined text) place rest → Fails is_separator rest
      → Verdict text room (behind_p (tokens_from true place rest))
  unfolding tokens_from
  from_p [] p f = record { short = short; header = no_cnf (subst (λ (k : ℕ). BehindP (lined text) k []) (end_place (within_p {text = text} p)) p) }
  from_p (b ∷ bs) p f = from_cnf p (token_here b bs (within_p {text = text} p) f).here

  abbrev from_lead : List Token → Parsed
  from_lead ts = expected (bytes "p") (length text) ts behind_p

  -- the token where `p` should stand
  from_first : {ends : Bool} {place : ℕ} {rest token : List ℕ} → BehindLead (lined text) ends place rest → TokenHere rest token → NoComment ends token
      → Verdict text room (from_lead (tokens_from true place rest))
  from_first {ends} {place} {rest} {token} lead here c =
      subst (λ (ts : List Token). Verdict text room (from_lead ts)) (sym (tokens_here here place)) (go (same_bytes (bytes "p") token) refl)
    where
      go : (t : Bool) → same_bytes (bytes "p") token ≡ t
          → Verdict text room (cond t (behind_p (tokens_from true (suc (place + length token)) here.after)) (refused NoHeader place))
      go true e =
          let same = same_bytes_lem (bytes "p") token e in
          let run = front is_separator here.after in
          let rest = drop (length run) here.after in
          let gap : List ℕ = here.b ∷ run in
          let split : here.after ≡ run ++ rest = front_splits is_separator here.after in
          let place_is : suc (place + length token) + length run ≡ place + (1 + length gap) = omega (arith, ap length same) in
          let p : BehindP (lined text) (place + (1 + length gap)) rest =
          record {
            ends = ends;
            first = place;
            gap = gap;
            lead =
                subst (BehindLead (lined text) ends place)
                (here.whole
                ∙ ap (λ (l : List ℕ). l ++ (here.b ∷ here.after)) same
                ∙ ap (λ (l : List ℕ). bytes "p" ++ (here.b ∷ l)) split)
                lead;
            some = omega arith;
            blank = (here.ends, front_each is_separator here.after);
            size = refl;
          } in
          subst (λ (ts : List Token). Verdict text room (behind_p ts))
          (sym
          (ap (tokens_from true (suc (place + length token))) split
          ∙ tokens_behind_lem (suc (place + length token)) run rest (front_each is_separator here.after)
          ∙ ap (λ (k : ℕ). tokens_from true k rest) place_is))
          (from_p rest p (front_fails is_separator here.after))
      go false e = record { short = short; header = other_p token lead here c (other_bytes (bytes "p") token e) }

  from_lead_lem : {ends : Bool} {place : ℕ} (rest : List ℕ) → BehindLead (lined text) ends place rest → Begins ends rest
      → Verdict text room (from_lead (tokens_from true place rest))
  unfolding tokens_from
  from_lead_lem {ends} [] lead h =
      record { short = short; header = no_p (subst (λ (k : ℕ). BehindLead (lined text) ends k []) (end_place (within_lead {text = text} lead)) lead) }
  from_lead_lem {ends} (b ∷ bs) lead h =
      let next = token_here b bs (within_lead {text = text} lead) h.0 in
      from_first lead next.here
      (no_comment ends next.token (next.here.b ∷ next.here.after) (subst (Begins ends) next.here.whole h))

-- ── the verdict ──
module _ (text : List ℕ) (room : ℕ) where
  pub verdict : Verdict text room (read_file text room)
  unfolding read_header
  verdict = go (ltb 60000 (length text)) refl
    where
      whole : length text ≤ 60000 → Verdict text room (headed text (limit_of room))
      whole short =
          let a = leading text in
          let lead : BehindLead (lined text) a.ends (lead_length LineStart (lined text)) a.rest =
          record { before = a.before; lead = a.lead; whole = a.whole; size = a.size } in
          subst (λ (ts : List Token). Verdict text room (read_header (limit_of room) (length text) ts))
          (sym (lead_tokens lead) ∙ lead_lined text)
          (from_lead_lem text room short a.rest lead a.begins)

      go : (t : Bool) → ltb 60000 (length text) ≡ t → Verdict text room (read_file text room)
      go true e =
          let l = ltb-true 60000 (length text) e in
          subst (Verdict text room) (sym (over_long text room l)) (record { long = l; place = refl })
      go false e =
          let l = ltb-false 60000 (length text) e in
          subst (Verdict text room) (sym (short_enough text room l)) (whole l)

  pub verdict_only : (x : Parsed) → Verdict text room x → read_file text room ≡ x
  verdict_only (file h) v =
      at_end text room v.short v.stands
      ∙ ap (λ (t : Bool). cond t (refused NotClosed (length text)) (file (unit_hall v.n v.rules))) (le-ltb (length v.rules) (length v.rules) (omega arith))
      ∙ ap file (sym v.hall)
  verdict_only (refused (Text WrongByte) i) v =
      at_token text room (refused (Text WrongByte) i) v.here λ ts.
      numbers_bad (limit_of room) (length text) v.s (placed v.place v.token) ts WrongByte i
      (says_only v.place v.token (typed.refused WrongByte i) (v.before, v.wrong, v.byte))
  verdict_only (refused (Text BadNumber) i) v =
      at_token text room (refused (Text BadNumber) i) v.here λ ts.
      numbers_bad (limit_of room) (length text) v.s (placed i v.token) ts BadNumber i
      (says_only i v.token (typed.refused BadNumber i) (v.bad, refl))
  verdict_only (refused (Text TooLong) i) v = over_long text room v.long ∙ ap (refused (Text TooLong)) (sym v.place)
  verdict_only (refused (Text NoRoom) i) v =
      let q = v.number in
      at_token text room (refused (Text NoRoom) i) q.here λ ts.
      numbers_full (limit_of room) (length text) v.s (placed i q.token) ts v.z (says_only i q.token (typed.got v.z) q.allowed)
      v.next (leads_taken v.leads) ((limit_over room (length (sheet_so_far v.next))).1 v.over)
  verdict_only (refused (Sheet TooShort) i) v = absurd v
  verdict_only (refused (Sheet BadDeviceCount) i) v = at_number text room (Sheet BadDeviceCount) v.number (device_count v.outside)
  verdict_only (refused (Sheet BadCost) i) v = absurd v
  verdict_only (refused (Sheet BadEntry) i) v =
      at_number text room (Sheet BadEntry) v.number (unnamed v.declared v.outside)
  verdict_only (refused (Sheet ExtraWords) i) v = absurd v
  verdict_only (refused (Sheet SmallRoom) i) v = absurd v
  verdict_only (refused (Sheet SheetTooLong) i) v = absurd v
  verdict_only (refused (Sheet BadRuleCount) i) v = at_number text room (Sheet BadRuleCount) v.number (rule_count v.outside)
  verdict_only (refused (Sheet (BadWidth clause)) i) v =
      at_number text room (Sheet (BadWidth (suc (length v.closed)))) v.number (overfull v.declared v.some v.named v.full)
      ∙ ap (λ (k : ℕ). refused (Sheet (BadWidth k)) i) (sym v.which)
  verdict_only (refused NoHeader i) v = header_fails text room v.short v.header
  verdict_only (refused NotClosed i) v =
      at_end text room v.short v.stands
      ∙ ap (λ (t : Bool). cond t (refused NotClosed (length text)) (file (unit_hall v.n v.closed))) (lt-ltb (length v.closed) v.m v.fewer)
      ∙ ap (refused NotClosed) (sym v.place)
  verdict_only (refused ExtraToken i) v =
      at_number text room ExtraToken v.number (behind_last v.all)

-- "accepted exactly if": and then its hall is what is read
pub accepted_exactly : (text : List ℕ) (room : ℕ) (h : Hall) → (read_file text room ≡ file h) ↔ Accepted text room h
accepted_exactly text room h = (λ e. subst (Verdict text room) e (verdict text room), λ a. verdict_only text room (file h) a)

-- each refusal for its reason, and only for it
pub refused_exactly : (f : Flaw) (i : ℕ) (text : List ℕ) (room : ℕ) → (read_file text room ≡ refused f i) ↔ Reason f i text room
refused_exactly f i text room = (λ e. subst (Verdict text room) e (verdict text room), λ r. verdict_only text room (refused f i) r)
