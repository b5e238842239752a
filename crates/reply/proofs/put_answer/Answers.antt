-- `put_answer` meets its contract: for each case of the answer its lines are the definition's (Prints). Assumes nothing.
use Rattle.reply.proofs.Prints.{puts_least, puts_none, puts_spent}
use Rattle.reply.proofs.put_answer.Goals as goal

pub returns-in-Least : goal.returns-in-Least
returns-in-Least c = search puts_least

pub returns-in-None : goal.returns-in-None
returns-in-None c = search puts_none

pub returns-in-Spent : goal.returns-in-Spent
returns-in-Spent c = search puts_spent
