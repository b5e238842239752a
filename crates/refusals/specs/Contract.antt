-- The contract of `tell` and of `tell_code`: the paper's numbers of a refusal, and the lent array afterwards.
--
-- In order: the kind of a refusal, from the code's enum to the definitions and back; its numbers; the contract. Definitions only.
use Rattle.std.specs.Prelude.{◌≡◌, List, ℕ, ◌≤◌, length}
use Rattle.lists.specs.Lists.{in_front}
use Rattle.hall.specs.Reading.{Fault, too_short, bad_device_count, bad_cost, bad_entry, extra_words, small_room, too_long, bad_rule_count, bad_width, refusal_numbers}
use Rattle.refusals.specs.declared.Refusal.{Refusal}
use Rattle.refusals.specs.declared.Refusal.TheVariants.{TooShort, BadDeviceCount, BadCost, BadEntry, ExtraWords, SmallRoom, TooLong, BadRuleCount, BadWidth}

-- the kind of refusal that a case of the enum is
abbrev pub fault_of : Refusal → Fault
fault_of TooShort = too_short
fault_of BadDeviceCount = bad_device_count
fault_of BadCost = bad_cost
fault_of BadEntry = bad_entry
fault_of ExtraWords = extra_words
fault_of SmallRoom = small_room
fault_of TooLong = too_long
fault_of BadRuleCount = bad_rule_count
fault_of (BadWidth rule) = bad_width rule

-- the case that a kind of refusal is
abbrev pub kind_of : Fault → Refusal
kind_of too_short = TooShort
kind_of bad_device_count = BadDeviceCount
kind_of bad_cost = BadCost
kind_of bad_entry = BadEntry
kind_of extra_words = ExtraWords
kind_of small_room = SmallRoom
kind_of too_long = TooLong
kind_of bad_rule_count = BadRuleCount
kind_of (bad_width rule) = BadWidth rule

-- the paper's numbers of a refusal
abbrev pub numbers_at : Refusal → (place : ℕ) → List ℕ
numbers_at kind place = refusal_numbers (fault_of kind) place

-- the contract of `tell`, for these numbers: r is how many they are, at most three; they stand in front of the array, and the rest
-- is as it was
pub record Tells (told before : List ℕ) (r : ℕ) (after : List ℕ) : Type 0 where
  pub says : r ≡ length told
  pub few : r ≤ 3
  pub room : after ≡ in_front told before
