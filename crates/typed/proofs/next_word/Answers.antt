-- `typed::next_word` meets its contract: it says what the next token says. Assumes nothing.
use mathlib.Core.Path.{sym}
use Rattle.std.proofs.Common.{rules}
use Rattle.typed.proofs.Splitting.{says_next}
use Rattle.typed.proofs.next_word.Goals as goal

pub returns-in_err-word : goal.returns-in_err-word
returns-in_err-word c =
    let e = says_next _ _ _ _ (sym c.in-Some.ensures) c.in_err-word.ensures in
    search rules

pub returns : goal.returns
returns c =
    let e = says_next _ _ _ _ (sym c.in-Some.ensures) c.in_ok-word.ensures in
    search rules
