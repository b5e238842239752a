-- `searched` meets its contract: what the search found is printed as the definitions print it (`printed_found`). Assumes nothing.
use Rattle.reply.proofs.Found.{printed_found}
use Rattle.reply.proofs.searched.Goals as goal

pub returns : goal.returns
returns c = search printed_found
