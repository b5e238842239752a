-- `read` meets its contract: a good sheet's hall lies in the arrays (Decoding). Assumes nothing.
use Rattle.sheet.proofs.Decoding.{accepted_costs, accepted_rules, accepted_room, read_hall}
use Rattle.sheet.proofs.read.Goals as goal

pub put_costs-requires : goal.put_costs-requires
put_costs-requires c = let e = c.in_ok-size.ensures in search accepted_costs

pub put_rules-requires : goal.put_rules-requires
put_rules-requires c = let e = c.in_ok-size.ensures in search (accepted_rules, accepted_room)

pub returns : goal.returns
returns c = let e = c.in_ok-size.ensures in search read_hall
