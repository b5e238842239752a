-- `put_text` meets its contract: in the edition before 2022 the lines of the clauses stand behind the first line (`before_puts`). Assumes
-- nothing.
use Rattle.wcnf.proofs.WrittenText.{before_puts}
use Rattle.wcnf.proofs.put_text.Goals as goal

pub returns-in-Before2022 : goal.returns-in-Before2022
returns-in-Before2022 c = search before_puts
