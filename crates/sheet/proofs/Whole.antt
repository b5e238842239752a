-- What is told of the whole sheet, by what is told of its parts.
--
-- In order: how many a run gives (`times_length`); the end of a sheet whose hall is read (`end_told`, by `words_behind`, `small_room_lem`,
-- `good_sheet`); a sheet that is too long (`long_sheet`), and the parts of another (`sheet_parts`). Each law has on its left what the
-- goals have, so that check.rt need but name the set of laws. Assumes nothing.
use mathlib.Core.Path.{◌≡◌, refl, ap, ◌∙◌}
use mathlib.Core.Bool.{Bool, true, false}
use mathlib.Core.List.{List, [], ◌∷◌}
use mathlib.Core.Option.{Option, none, some}
use Prim.Native.Nat.{ℕ, zero, suc, ◌+◌, ◌-◌, ◌≤◌, ◌<◌}
use native.Mathlib.Numerals.{add-one}
use lib.ListN.{length, get_elem?}
use lib.IntN.{ℤ}
use lib.Dec.{ltb}
use borrow.Author.Tests.{lt-ltb, le-ltb}
use Rattle.std.specs.Prelude.{Result, Ok, Err}
use Rattle.hall.specs.Hall.{Hall}
use Rattle.hall.specs.Reading.{Fault, bad_device_count, bad_rule_count, Read, bad, got, Reader, then, ◌>>=◌, yield, as_read, at_word, word, up_to, times, cost, rule, all_rules, hall, ended_by, ended, room_by, has_room, decode_by, decode}
use Rattle.hall.proofs.Reading.{reads}
use Rattle.refusals.specs.declared.Refusal.{Refusal}
use Rattle.refusals.specs.declared.Refusal.TheVariants.{ExtraWords, SmallRoom, TooLong}
use Rattle.refusals.specs.declared.Refused.{Refused}
use Rattle.sheet.specs.Check.{count_of, step_of, sheet_of}
use Rattle.sheet.specs.declared.Size.{Size}
use Rattle.sheet.proofs.Runs.{go_on}

times_length : {A : Type 0} (k : ℕ) (r : ℕ → Reader A) (ws : List ℤ) (i : ℕ) (l : List A) (j : ℕ) → times k r ws i ≡ got l j → length l ≡ k
unfolding times
times_length zero r ws i l j e = let z : [] ≡ l = cc in rw (← z)
times_length (suc k) r ws i l j e =
    let x = reads (r k) (λ a. times k r >>= λ m. yield (a ∷ m)) ws i l j e in
    let y = reads (times k r) (λ m. yield (x.value ∷ m)) ws x.place l j x.two in
    let f = y.two in
    let z : x.value ∷ y.value ≡ l = cc in
    rw (← z) (ap suc (times_length k r ws x.place y.value y.place y.one))

-- ── the end of the sheet, and the plan room ──
abbrev room_told : Bool → (n m : ℕ) → Result Size (Refused Refusal)
room_told true n m = Err (record { kind = SmallRoom; place = n })
room_told false n m = Ok (record { devices = n; rules = m })

abbrev behind_told : Bool → (end : ℕ) → Result Size (Refused Refusal) → Result Size (Refused Refusal)
behind_told true end fits = Err (record { kind = ExtraWords; place = end })
behind_told false end fits = fits

-- what is told of a hall of n devices and m rules that ends before a place of a sheet of so many words
unfoldable pub end_told : (room n m end long : ℕ) → Result Size (Refused Refusal)
end_told room n m end long = behind_told (ltb end long) end (room_told (ltb room n) n m)

pub words_behind : (room n m end long : ℕ) → end < long → end_told room n m end long ≡ Err (record { kind = ExtraWords; place = end })
unfolding end_told
words_behind room n m end long l = rw (lt-ltb end long l)

pub small_room_lem : (room n m end long : ℕ) → long ≤ end → room < n → end_told room n m end long ≡ Err (record { kind = SmallRoom; place = n })
unfolding end_told
small_room_lem room n m end long l k = rw (le-ltb end long l, lt-ltb room n k)

pub good_sheet : (room n m end long : ℕ) → long ≤ end → n ≤ room → end_told room n m end long ≡ Ok (record { devices = n; rules = m })
unfolding end_told
good_sheet room n m end long l k = rw (le-ltb end long l, le-ltb room n k)

-- ── the whole ──
pub long_sheet : (room : ℕ) (ws : List ℤ) → 16384 < length ws → sheet_of (decode room ws) ≡ Err (record { kind = TooLong; place = 16384 })
unfolding decode decode_by
long_sheet room ws l = rw (lt-ltb 16384 (length ws) l)

module _ (room : ℕ) (ws : List ℤ) where
  -- what is told of a sheet, by what its hall's reader gives
  ends : Read Hall → Result Size (Refused Refusal)
  ends x = sheet_of (then (then x ended ws) (has_room room) ws)

  ends_told : (h : Hall) (end : ℕ) → ends (got h end) ≡ end_told room (length h.costs) (length h.rules) end (length ws)
  unfolding ends end_told
  ends_told h end = go (ltb end (length ws))
    where
      by : (b : Bool) → sheet_of (room_by b h ws end) ≡ room_told b (length h.costs) (length h.rules)
      by true = refl
      by false = refl

      go : (a : Bool) → sheet_of (then (ended_by a h ws end) (has_room room) ws) ≡ behind_told a end (room_told (ltb room (length h.costs)) (length h.costs) (length h.rules))
      go true = refl
      go false = by (ltb room (length h.costs))

  -- a count, and a run, and what is told of the sheet behind it
  count_first : (f : Fault) (most i : ℕ) (k : ℕ → Reader Hall) (rest : ℕ → Result Size (Refused Refusal)) → ((n : ℕ) → ends (k n ws (i + 1)) ≡ rest n)
      → ends (then (word f (up_to most) ws i) k ws) ≡ go_on (count_of (word f (up_to most) ws i)) rest
  unfolding ends
  count_first f most i k rest h = go (get_elem? ws i)
    where
      by : (x : Option ℕ) → ends (then (as_read f i x) k ws) ≡ go_on (count_of (as_read f i x)) rest
      by none = refl
      by (some n) = rw (← add-one i) (h n)

      go : (o : Option ℤ) → ends (then (at_word f (up_to most) ws i o) k ws) ≡ go_on (count_of (at_word f (up_to most) ws i o)) rest
      go none = refl
      go (some w) = by (up_to most w)

  run_first : {A : Type 0} (x : Read A) (k : A → Reader Hall) (rest : ℕ → Result Size (Refused Refusal)) → ((a : A) (j : ℕ) → x ≡ got a j → ends (k a ws j) ≡ rest j)
      → ends (then x k ws) ≡ go_on (step_of x) rest
  unfolding ends
  run_first (bad f i) k rest h = refl
  run_first (got a j) k rest h = h a j refl

  pub sheet_parts : length ws ≤ 16384 → sheet_of (decode room ws)
      ≡ go_on (count_of (word bad_device_count (up_to 200) ws 0)) (λ n. go_on (step_of (times n (λ left. cost) ws 1)) (λ behind.
      go_on (count_of (word bad_rule_count (up_to 2000) ws behind)) (λ m. go_on (step_of (all_rules n m ws (behind + 1))) (λ end. end_told room n m end (length ws)))))
  unfolding decode decode_by hall ends all_rules
  sheet_parts l = rw (le-ltb 16384 (length ws) l)
      (count_first bad_device_count 200 0 _ _ (λ n. run_first (times n (λ left. cost) ws 1) _ _ (λ costs behind is.
      count_first bad_rule_count 2000 behind _ _ (λ m. run_first (times m (λ left. rule n (m - left)) ws (behind + 1)) _ _ (λ rules end is'.
      ends_told (record { costs = costs; rules = rules }) end ∙ rw (times_length n (λ left. cost) ws 1 costs behind is, times_length m (λ left. rule n (m - left)) ws (behind + 1) rules end is'))))))

pub ruleset sheet_laws = (long_sheet, sheet_parts, words_behind, small_room_lem, good_sheet)
