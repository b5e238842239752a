-- The kinds of refusal, from the code's enum to the definitions and back: nothing is lost either way (`fault_kind`, `kind_fault`).
-- Assumes nothing.
use mathlib.Core.Path.{◌≡◌, refl}
use Rattle.hall.specs.Reading.{Fault, too_short, bad_device_count, bad_cost, bad_entry, extra_words, small_room, too_long, bad_rule_count, bad_width}
use Rattle.refusals.specs.Contract.{fault_of, kind_of}
use Rattle.refusals.specs.declared.Refusal.{Refusal}
use Rattle.refusals.specs.declared.Refusal.TheVariants.{TooShort, BadDeviceCount, BadCost, BadEntry, ExtraWords, SmallRoom, TooLong, BadRuleCount, BadWidth}

pub fault_kind : (f : Fault) → fault_of (kind_of f) ≡ f
fault_kind too_short = refl
fault_kind bad_device_count = refl
fault_kind bad_cost = refl
fault_kind bad_entry = refl
fault_kind extra_words = refl
fault_kind small_room = refl
fault_kind too_long = refl
fault_kind bad_rule_count = refl
fault_kind (bad_width rule) = refl

pub kind_fault : (k : Refusal) → kind_of (fault_of k) ≡ k
kind_fault TooShort = refl
kind_fault BadDeviceCount = refl
kind_fault BadCost = refl
kind_fault BadEntry = refl
kind_fault ExtraWords = refl
kind_fault SmallRoom = refl
kind_fault TooLong = refl
kind_fault BadRuleCount = refl
kind_fault (BadWidth rule) = refl
