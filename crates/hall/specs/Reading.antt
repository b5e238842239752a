-- Decoding a sheet from left to right, each word checked as it is read. 01, "The hall sheet" and "The answer sheet of the search";
-- 02, request 1, for the kinds of refusal.
--
-- In order: the kinds of refusal and their numbers; readers; one word; a number, an entry, so many of something, a rule, a hall;
-- the end of the sheet and the plan room; the whole. Definitions only.
use Rattle.std.specs.Prelude.{Bool, true, false, List, [], ◌∷◌, ℕ, zero, suc, ◌-◌, length, ℤ, pos, negsuc, leb, ltb}
use Rattle.std.proofs.Math.Option.{Option, none, some}
use Rattle.std.proofs.Math.ListN.{get_elem?}
use Rattle.hall.specs.Hall.{Entry, at1, at0, Rule, Hall}

-- the kinds of refusal, in the order of their codes. 02, request 1: "the width's also returns the rule's number, from 1"
pub data Fault : Type 0 where
  too_short bad_device_count bad_cost bad_entry extra_words small_room too_long bad_rule_count : Fault
  bad_width : (rule : ℕ) → Fault

-- "Code" and "Returned" of a refusal: its code, its place and, for a width, its rule. 02, request 1: "Code 12 shall mean the device
-- count only"; "18 for the rule count, 19 for the width". The one place that gives a refusal its numbers
abbrev pub refusal_numbers : Fault → (place : ℕ) → List ℕ
refusal_numbers too_short place = 11 ∷ place ∷ []
refusal_numbers bad_device_count place = 12 ∷ place ∷ []
refusal_numbers bad_cost place = 13 ∷ place ∷ []
refusal_numbers bad_entry place = 14 ∷ place ∷ []
refusal_numbers extra_words place = 15 ∷ place ∷ []
refusal_numbers small_room place = 16 ∷ place ∷ []
refusal_numbers too_long place = 17 ∷ place ∷ []
refusal_numbers bad_rule_count place = 18 ∷ place ∷ []
refusal_numbers (bad_width rule) place = 19 ∷ place ∷ rule ∷ []

-- what reading comes to: a refusal and its place, or a value and the place of the next word
pub data Read (A : Type 0) : Type 0 where
  bad : Fault → (place : ℕ) → Read A
  got : A → (next : ℕ) → Read A

-- a reader goes from a place of a sheet. "Places are word numbers from 0"
abbrev pub Reader : Type 0 → Type 0
Reader A = List ℤ → ℕ → Read A

-- "the first fault decides": after a refusal nothing more is read
abbrev pub then : {A B : Type 0} → Read A → (A → Reader B) → List ℤ → Read B
then (bad f i) k ws = bad f i
then (got a i) k ws = k a ws i

infixl 20 ◌>>=◌
abbrev pub ◌>>=◌ : {A B : Type 0} → Reader A → (A → Reader B) → Reader B
◌>>=◌ r k ws i = then (r ws i) k ws

abbrev pub yield : {A : Type 0} → A → Reader A
yield a ws i = got a i

-- the word at i is refused, or read as a value
abbrev pub as_read : {A : Type 0} → Fault → ℕ → Option A → Read A
as_read f i none = bad f i
as_read f i (some a) = got a (suc i)

-- 11: "sheet ends too soon | place: the sheet's length"
abbrev pub at_word : {A : Type 0} → Fault → (ℤ → Option A) → List ℤ → ℕ → Option ℤ → Read A
at_word f value ws i none = bad too_short (length ws)
at_word f value ws i (some w) = as_read f i (value w)

-- one word, by the value that it has where it is in its range; the kind where it has none
abbrev pub word : {A : Type 0} → Fault → (ℤ → Option A) → Reader A
word f value ws i = at_word f value ws i (get_elem? ws i)

abbrev pub only_if : {A : Type 0} → Bool → A → Option A
only_if true a = some a
only_if false a = none

-- a number from 0 to `most`
abbrev pub up_to : ℕ → ℤ → Option ℕ
up_to most (pos n) = only_if (leb n most) n
up_to most (negsuc n) = none

-- an entry whose size without its sign is from 1 to n
abbrev pub as_entry : ℕ → ℤ → Option Entry
as_entry n (pos zero) = none
as_entry n (pos (suc v)) = only_if (ltb v n) (at1 v)
as_entry n (negsuc v) = only_if (ltb v n) (at0 v)

-- so many of something, one after another; each reader is told how many come after it
unfoldable pub times : {A : Type 0} → ℕ → (ℕ → Reader A) → Reader (List A)
times zero r = yield []
times (suc left) r = do
  a ← r left
  rest ← times left r
  yield (a ∷ rest)

abbrev pub cost : Reader ℕ
cost = word bad_cost (up_to 1000000000)

abbrev pub entry : ℕ → Reader Entry
entry n = word bad_entry (as_entry n)

-- "each its width and then that many entries": a rule of n devices, by its number
unfoldable pub rule : (n number : ℕ) → Reader Rule
rule n number = do
  width ← word (bad_width number) (up_to 32)
  times width (λ left. entry n)

-- m rules of n devices, numbered from 1: the one with `left` after it is number m - left
unfoldable pub all_rules : (n m : ℕ) → Reader (List Rule)
all_rules n m = times m (λ left. rule n (m - left))

-- "the device count n, then n costs, device 1 first; the rule count m, then m rules"
unfoldable pub hall : Reader Hall
hall = do
  n ← word bad_device_count (up_to 200)
  costs ← times n (λ left. cost)
  m ← word bad_rule_count (up_to 2000)
  rules ← all_rules n m
  yield (record { costs = costs; rules = rules })

-- 15: "words after the last rule | place of the first such word"
abbrev pub ended_by : Bool → Hall → Reader Hall
ended_by true h ws i = bad extra_words i
ended_by false h ws i = got h i

abbrev pub ended : Hall → Reader Hall
ended h ws i = ended_by (ltb i (length ws)) h ws i

-- 16: "plan room shorter than n | place: n"
abbrev pub room_by : Bool → Hall → Reader Hall
room_by true h ws i = bad small_room (length h.costs)
room_by false h ws i = got h i

abbrev pub has_room : ℕ → Hall → Reader Hall
has_room room h ws i = room_by (ltb room (length h.costs)) h ws i

-- 17: "more than 16,384 words | place: 16,384". "Order: 17; then the sheet from left to right ..; then 15; then 16."
unfoldable pub decode_by : Bool → ℕ → List ℤ → Read Hall
decode_by true room ws = bad too_long 16384
decode_by false room ws = ((hall >>= ended) >>= has_room room) ws 0

-- a sheet, for a plan room of so many bytes
unfoldable pub decode : ℕ → List ℤ → Read Hall
decode room ws = decode_by (ltb 16384 (length ws)) room ws
