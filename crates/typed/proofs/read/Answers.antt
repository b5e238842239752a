-- `typed::read` meets its contract: a text that is too long is refused, any other is scanned, and where the scan found no mistake the
-- front of the room is filled. Assumes nothing.
use Rattle.std.proofs.Common.{arith, rules, Err}
use Rattle.typed.specs.Answer.{Reads}
use Rattle.typed.proofs.Answers.{too_long_lem, fills, filled_words, scanned_refused}
use Rattle.typed.proofs.read.Goals as goal

pub returns-then-text-gt60000 : goal.returns-then-text-gt60000
returns-then-text-gt60000 c = too_long_lem c.if-text-gt60000.true

pub returns-in_err-words : goal.returns-in_err-words
returns-in_err-words c =
    let e : Reads c.args.text.now c.args.room.now (Err c.in_err-words.field-0.0) c.args.room.now = scanned_refused (omega arith) (search rules) in
    search rules

pub fill-requires : goal.fill-requires
fill-requires c = fills _ _ c.in_ok-words.ensures.says (search rules)

pub returns : goal.returns
returns c = filled_words c.if-text-gt60000.false c.in_ok-words.ensures.says (search rules) c.fill.ensures
