-- What each word of a sheet is due to be, from the words before it, and the reasons for a refusal. 01, "The hall sheet" and
-- "The answer sheet of the search": "Each refusal is given only for its reason."; 02, request 1, for the kinds of refusal.
--
-- In order: what can be due; what is due after a word, and a sheet's number of devices; the ranges; the reason of each kind. Apart from the decoder (Reading):
-- that the two agree is a theorem (proofs/Reasons). Definitions only.
use Rattle.std.specs.Prelude.{◌≡◌, ◌≢◌, Bool, true, false, ◌&&◌, List, [], ◌∷◌, ◌++◌, ℕ, zero, suc, ◌≤◌, ◌<◌, length, get_or, take, ℤ, pos, negsuc, leb}
use Rattle.hall.specs.Hall.{Hall}
use Rattle.hall.specs.Ranges.{HallInRange, words}
use Rattle.hall.specs.Reading.{Fault, too_short, bad_device_count, bad_cost, bad_entry, extra_words, small_room, too_long, bad_rule_count, bad_width}

-- n is the number of devices, `rule` the number of the rule at hand, from 1, `rules` how many rules are still to come, `left` how many
-- of the same after this word
pub data Due : Type 0 where
  device_count : Due
  device_cost : (n left : ℕ) → Due
  rule_count : (n : ℕ) → Due
  rule_width : (n rule left : ℕ) → Due
  rule_entry : (n rule rules left : ℕ) → Due
  nothing_more : Due

-- so many costs are still to come; so many rules, from number `rule` on; so many entries of rule `rule`, and then so many rules
abbrev pub costs_due : ℕ → ℕ → Due
costs_due n zero = rule_count n
costs_due n (suc left) = device_cost n left

abbrev pub rules_due : ℕ → ℕ → ℕ → Due
rules_due n rule zero = nothing_more
rules_due n rule (suc left) = rule_width n rule left

abbrev pub entries_due : ℕ → ℕ → ℕ → ℕ → Due
entries_due n rule rules zero = rules_due n (suc rule) rules
entries_due n rule rules (suc left) = rule_entry n rule rules left

-- the number that a word says without its sign
abbrev pub size : ℤ → ℕ
size (pos n) = n
size (negsuc n) = suc n

-- n, the number of devices: a sheet's first word
abbrev pub devices_on : List ℤ → ℕ
devices_on [] = 0
devices_on (w ∷ ws) = size w

-- what is due after a word
abbrev pub next : Due → ℤ → Due
next device_count w = costs_due (size w) (size w)
next (device_cost n left) w = costs_due n left
next (rule_count n) w = rules_due n 1 (size w)
next (rule_width n rule left) w = entries_due n rule left (size w)
next (rule_entry n rule rules left) w = entries_due n rule rules left
next nothing_more w = nothing_more

unfoldable pub due_after : Due → List ℤ → Due
due_after d [] = d
due_after d (w ∷ ws) = due_after (next d w) ws

-- what the word after these is due to be
abbrev pub due : List ℤ → Due
due ws = due_after device_count ws

-- 01's table of ranges: from 0 to `most`; 1 to n without the sign
abbrev pub from_zero_to : ℕ → ℤ → Bool
from_zero_to most (pos n) = leb n most
from_zero_to most (negsuc n) = false

abbrev pub in_range_of : Due → ℤ → Bool
in_range_of device_count w = from_zero_to 200 w
in_range_of (device_cost n left) w = from_zero_to 1000000000 w
in_range_of (rule_count n) w = from_zero_to 2000 w
in_range_of (rule_width n rule left) w = from_zero_to 32 w
in_range_of (rule_entry n rule rules left) w = leb 1 (size w) && leb (size w) n
in_range_of nothing_more w = false

-- "Meaning": the kind that a word outside its range gives. 02, request 1: a kind for each of the three counts
abbrev pub fault_for : Due → Fault
fault_for device_count = bad_device_count
fault_for (device_cost n left) = bad_cost
fault_for (rule_count n) = bad_rule_count
fault_for (rule_width n rule left) = bad_width rule
fault_for (rule_entry n rule rules left) = bad_entry
fault_for nothing_more = extra_words

-- the word at a place is in the range of what it is due to be; so is each word before a place
abbrev pub right_at : List ℤ → ℕ → Bool
right_at ws i = in_range_of (due (take i ws)) (get_or ws i (pos 0))

abbrev pub RightBefore : List ℤ → ℕ → Type 0
RightBefore ws i = (j : ℕ) → j < i → right_at ws j ≡ true

-- 12, 13, 14, 18, 19: "each word checked as it is read, so the first fault decides"
pub record FirstWrong (f : Fault) (i : ℕ) (ws : List ℤ) : Type 0 where
  pub short : length ws ≤ 16384
  pub inside : i < length ws
  pub before : RightBefore ws i
  pub wrong : right_at ws i ≡ false
  pub kind : fault_for (due (take i ws)) ≡ f

-- 11: "sheet ends too soon | place: the sheet's length"
pub record EndsTooSoon (i : ℕ) (ws : List ℤ) : Type 0 where
  pub short : length ws ≤ 16384
  pub before : RightBefore ws (length ws)
  pub more : due ws ≢ nothing_more
  pub place : i ≡ length ws

-- 15: "words after the last rule | place of the first such word"
pub record WordsAfter (i : ℕ) (ws : List ℤ) : Type 0 where
  pub short : length ws ≤ 16384
  pub hall : Hall
  pub ranges : HallInRange hall
  pub extra : ℤ
  pub rest : List ℤ
  pub sheet : ws ≡ words hall ++ (extra ∷ rest)
  pub place : i ≡ length (words hall)

-- 16: "plan room shorter than n | place: n"
pub record RoomTooShort (i : ℕ) (ws : List ℤ) (room : ℕ) : Type 0 where
  pub short : length ws ≤ 16384
  pub hall : Hall
  pub ranges : HallInRange hall
  pub sheet : ws ≡ words hall
  pub small : room < length hall.costs
  pub place : i ≡ length hall.costs

-- 17: "more than 16,384 words | place: 16,384"
pub record TooManyWords (i : ℕ) (ws : List ℤ) : Type 0 where
  pub long : 16384 < length ws
  pub place : i ≡ 16384

-- the reason for a refusal of each kind, with its place
abbrev pub Reason : Fault → ℕ → List ℤ → ℕ → Type 0
Reason too_short i ws room = EndsTooSoon i ws
Reason bad_device_count i ws room = FirstWrong bad_device_count i ws
Reason bad_cost i ws room = FirstWrong bad_cost i ws
Reason bad_entry i ws room = FirstWrong bad_entry i ws
Reason extra_words i ws room = WordsAfter i ws
Reason small_room i ws room = RoomTooShort i ws room
Reason too_long i ws room = TooManyWords i ws
Reason bad_rule_count i ws room = FirstWrong bad_rule_count i ws
Reason (bad_width rule) i ws room = FirstWrong (bad_width rule) i ws
