-- `put_device` meets its contract: an entry for a mark of 1 or 2, nothing for any other mark (Devices). Assumes nothing.
use Rattle.printing.proofs.Devices.{puts_1, puts_2, puts_none}
use Rattle.printing.proofs.held.put_device.Goals as goal

pub returns-in-1 : goal.returns-in-1
returns-in-1 c = search puts_1

pub returns-in-2 : goal.returns-in-2
returns-in-2 c = search puts_2

pub returns-in_default : goal.returns-in_default
returns-in_default c = search puts_none
