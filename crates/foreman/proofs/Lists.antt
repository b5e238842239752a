-- The contract of `list_sheet`, from those of `least_plans` and of the lines.
--
-- In order: each plan of a list has a mark for each device (`sized`), so that the plans lie within the room, under any budget
-- (`plans_within`); what is printed is that of the definitions' list (`listing_is`). The cases: `lists_none`, `lists_spent`,
-- `lists_refused`, and `lists_plans`, of which all lines have place. Assumes nothing.
use mathlib.Core.Path.{◌≡◌, refl, sym, ◌∙◌, ap, subst}
use mathlib.Core.List.{List, [], ◌∷◌, ◌++◌}
use Prim.Native.Nat.{ℕ, ◌-◌, ◌*◌, ◌≤◌}
use native.Mathlib.Omega.{arith}
use lib.ListN.{length, take, replicate, length-append, length-replicate}
use lib.IntN.{ℤ}
use Rattle.lists.specs.Bytes.{bytes}
use Rattle.lists.proofs.Each.{each_of}
use Rattle.hall.specs.Hall.{Plan}
use Rattle.hall.specs.Due.{devices_on}
use Rattle.hall.specs.Ties.{joined}
use Rattle.hall.specs.Listing.{Listing, listed, listing, Lists, SaysListed}
use Rattle.hall.proofs.Sheets.{devices_on_lem}
use Rattle.hall.proofs.Listed.{lists_only}
use Rattle.plans.specs.Runs.{plans_from}
use Rattle.plans.proofs.Runs.{Sized, joined_length}
use Rattle.std.specs.Prelude.{Result, Ok, Err}
use Rattle.refusals.specs.declared.Refused.{Refused}
use Rattle.refusals.specs.declared.RoomRefusal.{RoomRefusal}
use Rattle.refusals.specs.declared.RoomRefusal.TheVariants.{BadSheet, ShortRoom}
use Rattle.typed.specs.Printing.{digits_of}
use Rattle.printing.specs.declared.Page.{Page}
use Rattle.printing.specs.Lines.{line, refused_line}
use Rattle.printing.specs.Contract.{Puts, PutsLine}
use Rattle.printing.proofs.Putting.{puts_then}
use Rattle.printing.proofs.InRoom.{Filled, put_in_room}
use Rattle.tied.specs.Contract.{hindrance_numbers, listing_of, plans_of, ListsTies}
use Rattle.tied.specs.declared.Tied.{Tied}
use Rattle.tied.specs.declared.Tied.TheVariants.{Plans, None, Spent}
use Rattle.foreman.specs.Printed.{hold_lines, printed_listing, printed_sheet}
use Rattle.foreman.specs.Contract.{ListsSheet}
use Rattle.foreman.proofs.Lines.{lines_short, plans_number}

-- the line of a refusal
refused_line_lem : (kind : RoomRefusal 51) (place : ℕ) (ps : List Plan) → refused_line (hindrance_numbers kind place) ≡ printed_listing (listing_of (Err (record { kind = kind; place = place })) ps)
refused_line_lem (BadSheet kind) place ps = refl
refused_line_lem ShortRoom place ps = refl

-- ── the plans in a room ──
-- the list that an answer is, with the plans that stand in the room
abbrev list_of : List ℤ → Result Tied (Refused (RoomRefusal 51)) → (room : List ℕ) → Listing
list_of ws answer room = listing_of answer (plans_of ws answer room)

module _ (ws : List ℤ) (budget : ℕ) (marks : List ℕ) (found : Result Tied (Refused (RoomRefusal 51))) (room : List ℕ) (x : ListsTies ws budget marks found room) where
  claim : (answer : Result Tied (Refused (RoomRefusal 51))) → found ≡ answer → Lists ws budget (length marks) (list_of ws answer room)
  claim answer e = subst (λ (a : Result Tied (Refused (RoomRefusal 51))). Lists ws budget (length marks) (list_of ws a room)) e x.claim

  module _ (cost held number opened : ℕ) (e : found ≡ Ok (Plans cost held number opened)) (n : ℕ) (devices : n ≡ devices_on ws) where
    says : SaysListed ws budget (length marks) cost held opened (plans_from number n room)
    says = subst (λ (k : ℕ). SaysListed ws budget (length marks) cost held opened (plans_from number k room)) (sym devices) (claim (Ok (Plans cost held number opened)) e)

    sized : Sized n (plans_from number n room)
    sized = each_of (λ (q : Plan). length q ≡ n) (plans_from number n room) (λ q i. (says.list.only q i).0.plan.size ∙ sym (devices_on_lem says.least.sheet) ∙ sym devices)

    plans_fit : length room ≡ length marks → number * n ≤ length room
    plans_fit kept =
        let many = plans_number number n room in
        let long : length (joined (plans_from number n room)) ≡ number * n = joined_length n (plans_from number n room) sized ∙ ap (λ (k : ℕ). k * n) many in
        omega (arith, says.fit)

    -- 897 bytes for each of 256 plans
    lines_fit : length (hold_lines (plans_from number n room)) ≤ 229632
    lines_fit =
        let few = says.least.sheet.ranges.devices in
        omega (arith, lines_short n (plans_from number n room) (omega (arith, devices_on_lem says.least.sheet)) sized, says.few)

  pub plans_within : (a : Tied) → found ≡ Ok a → (cost held number opened : ℕ) → a ≡ Plans cost held number opened → (n : ℕ) → n ≡ devices_on ws
      → length room ≡ length marks → number * n ≤ length room
  plans_within a f cost held number opened e n devices kept = plans_fit cost held number opened (f ∙ ap Ok e) n devices kept

-- ── what is printed ──
module _ (ws : List ℤ) (marks : List ℕ) (blank : marks ≡ replicate 51200 0) (found : Result Tied (Refused (RoomRefusal 51))) (room : List ℕ) (x : ListsTies ws 1000000 marks found room) where
  listing_is : (answer : Result Tied (Refused (RoomRefusal 51))) → found ≡ answer → printed_listing (list_of ws answer room) ≡ printed_sheet ws
  unfolding printed_sheet
  listing_is answer e =
      let size : length marks ≡ 51200 = ap length blank ∙ length-replicate {A = ℕ} 51200 0 in
      let only = lists_only ws 1000000 (length marks) (list_of ws answer room) (claim ws 1000000 marks found room x answer e) in
      ap printed_listing (sym only ∙ ap (listing ws 1000000) size)

  module _ (before : List ℕ) (large : length before ≡ 230000) (r : ℕ) (after : List ℕ) (start end : Page) (filled : Filled before start end r after) where
    lists : (answer : Result Tied (Refused (RoomRefusal 51))) → found ≡ answer → (lines : List ℕ) → lines ≡ printed_listing (list_of ws answer room) → length lines ≤ 230000 → Puts lines start end
        → ListsSheet ws before r after
    lists answer e lines is fits p = rw (← listing_is answer e, ← is) (put_in_room 230000 lines before r after start end filled large fits p)

    -- here and below `o`, `h` and `k` are numbers as they are printed, which are wider
    pub lists_none : (a : Tied) → found ≡ Ok a → (opened o : ℕ) → a ≡ None opened → o ≡ opened → PutsLine (bytes "none") (o ∷ []) start end → ListsSheet ws before r after
    lists_none a f opened o e number p = lists (Ok (None opened)) (f ∙ ap Ok e) _ (rw number refl) (omega (arith, p.short)) p.puts

    pub lists_spent : (a : Tied) → found ≡ Ok a → (opened o : ℕ) → a ≡ Spent opened → o ≡ opened → PutsLine (bytes "spent") (o ∷ []) start end → ListsSheet ws before r after
    lists_spent a f opened o e number p = lists (Ok (Spent opened)) (f ∙ ap Ok e) _ (rw number refl) (omega (arith, p.short)) p.puts

    pub lists_refused : (f : Refused (RoomRefusal 51)) → found ≡ Err f → PutsLine (bytes "refused") (hindrance_numbers f.kind f.place) start end
        → length (hindrance_numbers f.kind f.place) ≤ 3 → ListsSheet ws before r after
    lists_refused f e p few = lists (Err f) e _ (refused_line_lem f.kind f.place (plans_of ws (Err f) room)) (omega (arith, p.short)) p.puts

    -- the first line has at most 69 bytes, the second 27
    pub lists_plans : (a : Tied) → found ≡ Ok a → (cost held number opened h k o : ℕ) → a ≡ Plans cost held number opened → h ≡ held → k ≡ number → o ≡ opened
        → (n : ℕ) → n ≡ devices_on ws → (begun next : Page)
        → PutsLine (bytes "least") (cost ∷ h ∷ o ∷ []) start begun → PutsLine (bytes "plans") (k ∷ []) begun next
        → Puts (hold_lines (plans_from number n room)) next end → ListsSheet ws before r after
    lists_plans a f cost held number opened h k o e is many count n devices begun next p q s =
        let same : found ≡ Ok (Plans cost held number opened) = f ∙ ap Ok e in
        let least = line (bytes "least") digits_of (cost ∷ h ∷ o ∷ []) in
        let plans = line (bytes "plans") digits_of (k ∷ []) in
        let holds = hold_lines (plans_from number n room) in
        let few = lines_fit ws 1000000 marks found room x cost held number opened same n devices in
        lists (Ok (Plans cost held number opened)) same (least ++ (plans ++ holds))
        (rw (is, count, many)
        (ap (λ (j : ℕ). line (bytes "least") digits_of (cost ∷ held ∷ opened ∷ []) ++ (line (bytes "plans") digits_of (j ∷ []) ++ holds)) (sym (plans_number number n room))
        ∙ ap (λ (j : ℕ). printed_listing (listed cost held opened (plans_from number j room))) devices))
        (omega (arith, length-append least (plans ++ holds), length-append plans holds, p.short, q.short)) (puts_then p.puts (puts_then q.puts s))
