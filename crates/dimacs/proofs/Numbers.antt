-- Whatever the reader says of the numbers of a file has its reason, from a place that is reached.
--
-- In order: the verdict on a text and a room (`Verdict`); where the text ends (`from_end`); a separator (`from_separator`,
-- `stands_separator`); a mistake, a number that leads on and one with a flaw (`refuses`, `stands_number`, `flawed`); a token
-- (`from_token`); the tokens one after another (`from_place`), by induction over how many bytes are left. `Standing` says what stands
-- before them. Assumes nothing.
use mathlib.Core.Path.{◌≡◌, refl, sym, ap, subst}
use mathlib.Core.Bool.{Bool, true, false, cond}
use mathlib.Core.List.{List, [], ◌∷◌}
use Prim.Native.Nat.{ℕ, zero, suc, ◌+◌, ◌≤◌, ◌<◌}
use native.Mathlib.Omega.{arith}
use lib.ListN.{length, length-append}
use lib.IntN.{ℤ}
use lib.Dec.{leb, ltb}
use borrow.Author.Tests.{leb-true, leb-false, ltb-true, ltb-false}
use Rattle.hall.specs.Hall.{Rule}
use Rattle.typed.specs.Text as typed
use Rattle.typed.specs.Text.{is_separator, Token, tokens_from, value_of, placed}
use Rattle.typed.specs.Allowed.{Allowed, Reached}
use Rattle.typed.specs.declared.Mistake.{Mistake}
use Rattle.typed.specs.declared.Mistake.TheVariants.{WrongByte, BadNumber, TooLong, NoRoom}
use Rattle.typed.proofs.Sayings.{Says, token_says}
use Rattle.typed.proofs.Reaching.{skip_one, reached_separator, reached_word}
use Rattle.dimacs.specs.declared.Flaw.{Flaw}
use Rattle.dimacs.specs.declared.Flaw.TheVariants.{Text, NotClosed}
use Rattle.dimacs.specs.Stage.{Stage, variables, clauses, inside, unit_hall, sheet_so_far}
use Rattle.dimacs.specs.File.{Parsed, refused, file, Step, flaw, on}
use Rattle.dimacs.specs.File.{taken, valued, stepped, limit_of, fits_by, ended_at, read_numbers}
use Rattle.dimacs.specs.Standing.{lined, numbers_to, ClausesInRange, Standing, Accepted}
use Rattle.dimacs.specs.Reasons.{TokenHere, TokenAt, NumberAt, Leads, no_variables, no_clauses, Reason}
use Rattle.dimacs.proofs.Limits.{limit_holds, limit_over}
use Rattle.dimacs.proofs.Places.{within_standing, end_place, token_here, tokens_here}
use Rattle.dimacs.proofs.OneNumber.{Flawed, device_count, rule_count, unnamed, overfull, behind_last, Taken, taking, leads_range, leads_numbers}

-- a refusal has its reason, and a hall that is read is that of an accepted file
abbrev pub Verdict : List ℕ → ℕ → Parsed → Type 0
Verdict text room (refused f i) = Reason f i text room
Verdict text room (file h) = Accepted text room h

module _ (text : List ℕ) (room : ℕ) (short : length text ≤ 60000) where
  -- the verdict on the numbers of some tokens, behind a stage; and from a place on
  abbrev OfTokens : Stage → List Token → Type 0
  OfTokens s ts = Verdict text room (read_numbers (limit_of room) (length text) s ts)

  abbrev From : Stage → ℕ → List ℕ → Type 0
  From s place rest = OfTokens s (tokens_from true place rest)

  -- the verdict from every place that is reached, with fewer bytes left than some number
  abbrev Shorter : ℕ → Type 0
  Shorter most = (rest : List ℕ) (s : Stage) (place : ℕ) → length rest < most → Standing (lined text) room s place rest → From s place rest

  -- every clause declared is closed, so that none is open
  all_closed : (n m : ℕ) (closed : List Rule) (entries : Rule) → m ≤ length closed
      → Standing (lined text) room (inside n m closed entries) (suc (length text)) []
      → Verdict text room (file (unit_hall n closed))
  all_closed n m closed entries h st = record {
    short = short;
    n = n;
    rules = closed;
    stands =
        subst (λ (entries : Rule). Standing (lined text) room (inside n (length closed) closed entries) (suc (length text)) []) (none entries st.ranges)
        (subst (λ (m : ℕ). Standing (lined text) room (inside n m closed entries) (suc (length text)) []) same st);
    hall = refl;
  }
    where
      same : m ≡ length closed
      same = omega (arith, st.ranges.declared)

      none : (entries : Rule) → ClausesInRange n m closed entries → entries ≡ []
      none [] r = refl
      none (e ∷ es) r = absurd (let l : length closed < m = r.last (omega arith) in omega arith)

  ended : (s : Stage) → Standing (lined text) room s (suc (length text)) [] → Verdict text room (ended_at (length text) s)
  ended variables st = record { short = short; header = no_variables st }
  ended (clauses n) st = record { short = short; header = no_clauses n st }
  ended (inside n m closed entries) st = go (ltb (length closed) m) refl
    where
      go : (t : Bool) → ltb (length closed) m ≡ t → Verdict text room (cond t (refused NotClosed (length text)) (file (unit_hall n closed)))
      go true e = record {
        short = short;
        n = n;
        m = m;
        closed = closed;
        entries = entries;
        stands = st;
        fewer = ltb-true (length closed) m e;
        place = refl;
      }
      go false e = all_closed n m closed entries (ltb-false (length closed) m e) st

  from_end : (s : Stage) (place : ℕ) → Standing (lined text) room s place [] → From s place []
  unfolding tokens_from read_numbers
  from_end s place st = ended s (subst (λ (k : ℕ). Standing (lined text) room s k []) (end_place (within_standing {text = text} st)) st)

  from_separator : (s : Stage) (place b : ℕ) (bs : List ℕ) → is_separator b ≡ true → From s (suc place) bs → From s place (b ∷ bs)
  from_separator s place b bs e v = subst (OfTokens s) (sym (skip_one place b bs e)) v

  stands_separator : {s : Stage} {place b : ℕ} {bs : List ℕ} → is_separator b ≡ true → Standing (lined text) room s place (b ∷ bs)
      → Standing (lined text) room s (suc place) bs
  stands_separator e st = record {
    first = st.first;
    tail = st.tail;
    header = st.header;
    behind = suc st.behind;
    numbers = reached_separator e st.numbers;
    size = omega (arith, st.size);
    ranges = st.ranges;
    fits = st.fits;
    short = st.short;
  }

  module _ {s : Stage} {place : ℕ} {rest token : List ℕ} (st : Standing (lined text) room s place rest) (here : TokenHere rest token) where
    at_token : TokenAt text room s place token
    at_token = record { short = short; rest = rest; stands = st; here = here }

    -- a token with a mistake
    refuses : (m : Mistake) (i : ℕ) → Says place token (typed.refused m i) → Reason (Text m) i text room
    refuses WrongByte i (before, wrong, byte) =
        record { s = s; place = place; token = token; here = at_token; before = before; wrong = wrong; byte = byte }
    refuses BadNumber i (bad, e) =
        subst (λ (i : ℕ). Reason (Text BadNumber) i text room) (sym e) (record { s = s; token = token; here = at_token; bad = bad })
    refuses TooLong i x = absurd x
    refuses NoRoom i x = absurd x

    module _ {z : ℤ} (a : Allowed token z) where
      at_number : NumberAt text room s place z
      at_number = record { token = token; here = at_token; allowed = a }

      -- behind a number that leads on, with room for it
      stands_number : {next : Stage} → Leads s z next → length (sheet_so_far next) ≤ room → length (sheet_so_far next) ≤ 16384
          → Standing (lined text) room next (suc (place + length token)) here.after
      stands_number {next} l fits few = record {
        first = st.first;
        tail = st.tail;
        header = st.header;
        behind = suc (st.behind + length token);
        numbers =
            subst (λ (ws : List ℤ). Reached st.tail ws (suc (st.behind + length token)) here.after) (sym (leads_numbers l))
            (reached_word token here.b here.after a here.ends (subst (Reached st.tail (numbers_to s) st.behind) here.whole st.numbers));
        size = omega (arith, st.size);
        ranges = leads_range st.ranges l;
        fits = fits;
        short = few;
      }

  -- a number with a flaw
  flawed : {s : Stage} {z : ℤ} {f : Flaw} {i : ℕ} → Flawed s z f → NumberAt text room s i z → Reason f i text room
  flawed {z = z} (device_count e) at = record { z = z; number = at; outside = e }
  flawed {z = z} (rule_count {n} e) at = record { n = n; z = z; number = at; outside = e }
  flawed {z = z} (unnamed {n} {m} {closed} {entries} d h) at =
      record { n = n; m = m; closed = closed; entries = entries; z = z; number = at; declared = d; outside = h }
  flawed {z = z} (overfull {n} {m} {closed} {entries} d h k full) at =
      record { n = n; m = m; closed = closed; entries = entries; z = z; number = at; declared = d; some = h; named = k; full = full; which = refl }
  flawed {z = z} (behind_last {n} {m} {closed} {entries} all) at =
      record { n = n; m = m; closed = closed; entries = entries; z = z; number = at; all = all }

  module _ (most : ℕ) (shorter : Shorter most) where
    -- a token: a mistake, or a number, which has a flaw, no room, or leads on
    module _ {s : Stage} {place : ℕ} {rest token : List ℕ} (st : Standing (lined text) room s place rest) (here : TokenHere rest token)
        (few : length here.after < most) where
      abbrev others : List Token
      others = tokens_from true (suc (place + length token)) here.after

      from_stage : {z : ℤ} → Allowed token z → (next : Stage) → Leads s z next
          → Verdict text room (fits_by (leb (length (sheet_so_far next)) (limit_of room)) place (read_numbers (limit_of room) (length text) next others))
      from_stage {z} a next l = go (leb (length (sheet_so_far next)) (limit_of room)) refl
        where
          go : (t : Bool) → leb (length (sheet_so_far next)) (limit_of room) ≡ t
              → Verdict text room (fits_by t place (read_numbers (limit_of room) (length text) next others))
          go true e =
              let both = (limit_holds room (length (sheet_so_far next))).0 (leb-true (length (sheet_so_far next)) (limit_of room) e) in
              shorter here.after next (suc (place + length token)) few (stands_number st here a l both.0 both.1)
          go false e = record {
            s = s;
            z = z;
            number = at_number st here a;
            next = next;
            leads = l;
            over = (limit_over room (length (sheet_so_far next))).0 (leb-false (length (sheet_so_far next)) (limit_of room) e);
          }

      from_number : {z : ℤ} → Allowed token z → (x : Step) → Taken s z x
          → Verdict text room
          (stepped place x λ next. fits_by (leb (length (sheet_so_far next)) (limit_of room)) place (read_numbers (limit_of room) (length text) next others))
      from_number a (flaw f) t = flawed t (at_number st here a)
      from_number a (on next) l = from_stage a next l

      from_token : From s place rest
      unfolding read_numbers
      from_token =
          subst (OfTokens s) (sym (tokens_here here place))
          (go (value_of (placed place token)) (token_says place token))
        where
          go : (x : typed.Read ℤ) → Says place token x
              → Verdict text room
              (valued x λ z. stepped place (taken s z) λ next. fits_by (leb (length (sheet_so_far next)) (limit_of room)) place
              (read_numbers (limit_of room) (length text) next others))
          go (typed.refused m i) says = refuses st here m i says
          go (typed.got z) a = from_number a (taken s z) (taking s st.ranges z)

    from_step : (rest : List ℕ) (s : Stage) (place : ℕ) → length rest ≤ most → Standing (lined text) room s place rest → From s place rest
    from_step [] s place l st = from_end s place st
    from_step (b ∷ bs) s place l st = go (is_separator b) refl
      where
        go : (t : Bool) → is_separator b ≡ t → From s place (b ∷ bs)
        go true e = from_separator s place b bs e (shorter bs s (suc place) (omega arith) (stands_separator e st))
        go false e =
            let next = token_here b bs (within_standing {text = text} st) e in
            from_token st next.here (omega (arith, ap length next.here.whole, length-append next.token (next.here.b ∷ next.here.after)))

  pub from_place : (most : ℕ) → Shorter most
  from_place zero rest s place l st = absurd (omega arith)
  from_place (suc most) rest s place l st = from_step most (from_place most) rest s place (omega arith) st
