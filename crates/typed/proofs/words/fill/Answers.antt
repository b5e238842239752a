-- `typed::words::fill` meets its contract. The loop keeps `Filling`: the words written, with those left, are all words of the text.
-- Assumes nothing.
use mathlib.Core.Path.{sym, ◌∙◌, ap}
use Rattle.std.proofs.Common.{rules, Ok}
use Rattle.typed.proofs.Filling.{filling_found, filling_more}
use Rattle.typed.proofs.words.fill.Goals.{in_default-via-in-Ok+in_default, in_default-via-in_default}
use Rattle.typed.proofs.words.fill.Goals as goal

pub unreachable-requires : goal.unreachable-requires
unreachable-requires c =
    let f = filling_found c.loop-word.invariant c.loop-word-test.true c.next_word.ensures in
    elim c.in_default.branch [ in_default-via-in-Ok+in_default w ↦ search rules | in_default-via-in_default w ↦ search rules ]

pub loop-word-preserved : goal.loop-word-preserved
loop-word-preserved c =
    filling_more c.loop-word.invariant c.loop-word-test.true (sym (ap Ok c.in-Ok-Some.field-0-is) ∙ c.in-Ok-Some.ensures) (search rules) (search rules)
