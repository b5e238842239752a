-- `hand_sheet` meets its contract: the text as it was written (`hands_text`), or the line of its refusal (`hands_refused`).
-- Assumes nothing.
use Rattle.handing.proofs.HandedText.{hands_text, hands_refused}
use Rattle.handing.proofs.hand_sheet.Goals as goal

pub returns-in-Ok : goal.returns-in-Ok
returns-in-Ok c = search hands_text

pub returns-in-Err : goal.returns-in-Err
returns-in-Err c = search hands_refused
