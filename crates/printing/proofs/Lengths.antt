-- How long a line is at most.
--
-- In order: a line of numbers of 64 bits, each of at most 20 digits behind its blank (`line_short`); the line of the held devices of a
-- plan of at most 200 marks, 897 bytes, of which 892 are for the entries of 200 devices (`hold_short`). Assumes nothing.
use mathlib.Core.Path.{◌≡◌, refl}
use mathlib.Core.List.{List, [], ◌∷◌, ◌++◌}
use Prim.Native.Nat.{ℕ, zero, suc, ◌+◌, ◌*◌, ◌^◌, ◌≤◌, ◌<◌}
use native.Mathlib.Omega.{arith}
use lib.ListN.{length, get_or, length-append}
use Rattle.lists.specs.Bytes.{bytes}
use Rattle.hall.specs.Order.{held_by, held_from, held_entries}
use Rattle.hall.specs.Ranges.{words_of}
use Rattle.typed.specs.Printing.{digits_by, digits_of}
use Rattle.typed.proofs.Printed.{digits_few}
use Rattle.printing.specs.Lines.{spaced, line_end, line, printed_entries, hold_line}

-- ── a line of numbers ──
one_more_lem : (n : ℕ) (numbers : List ℕ) → length (spaced digits_of (n ∷ numbers)) ≡ 1 + length (digits_of n) + length (spaced digits_of numbers)
unfolding spaced
one_more_lem n numbers = omega (arith, length-append (digits_of n) (spaced digits_of numbers))

no_more : length (spaced digits_of []) ≡ 0
unfolding spaced
no_more = refl

numbers_short : (numbers : List ℕ) → ((i : ℕ) → get_or numbers i 0 < 2 ^ 64) → length (spaced digits_of numbers) ≤ 21 * length numbers
numbers_short [] small = omega (arith, no_more)
numbers_short (n ∷ numbers) small =
    let first : length (digits_of n) ≤ 20 = digits_few n n 19 (omega (arith, small 0)) in
    omega (arith, one_more_lem n numbers, numbers_short numbers (λ (i : ℕ). small (suc i)))

pub line_short : (word numbers : List ℕ) → ((i : ℕ) → get_or numbers i 0 < 2 ^ 64)
    → length (line word digits_of numbers) ≤ length word + 21 * length numbers + 1
line_short word numbers small =
    omega (
      arith,
      length-append word (spaced digits_of numbers ++ line_end),
      length-append (spaced digits_of numbers) line_end,
      numbers_short numbers small,
    )

-- ── the line of the held devices ──
-- room for a blank, a minus and the digits of each of so many devices from one on
unfoldable room_for : ℕ → ℕ → ℕ
room_for v zero = 0
room_for v (suc n) = 2 + length (digits_of (suc v)) + room_for (suc v) n

devices_short : (v n : ℕ) (plan : List ℕ) → length plan ≤ n → length (printed_entries (held_from v plan)) ≤ room_for v n
unfolding room_for held_from spaced words_of
devices_short v n [] h = omega arith
devices_short v zero (x ∷ plan) h = absurd (omega arith)
devices_short v (suc n) (x ∷ plan) h = go x (devices_short (suc v) n plan (omega arith))
  where
    go : (x : ℕ) → length (printed_entries (held_from (suc v) plan)) ≤ room_for (suc v) n
        → length (printed_entries (held_by x v (held_from (suc v) plan))) ≤ 2 + length (digits_of (suc v)) + room_for (suc v) n
    go zero rest = omega arith
    go (suc zero) rest = omega (arith, length-append (digits_of (suc v)) (printed_entries (held_from (suc v) plan)))
    go (suc (suc zero)) rest = omega (arith, length-append (digits_of (suc v)) (printed_entries (held_from (suc v) plan)))
    go (suc (suc (suc x))) rest = omega arith

all_devices : room_for 0 200 ≡ 892
unfolding room_for digits_by
all_devices = refl

pub hold_short : (plan : List ℕ) → length plan ≤ 200 → length (hold_line plan) ≤ 897
hold_short plan h =
    let entries = printed_entries (held_entries plan) in
    omega (
      arith,
      length-append (bytes "hold") (entries ++ line_end),
      length-append entries line_end,
      devices_short 0 200 plan h,
      all_devices,
    )
