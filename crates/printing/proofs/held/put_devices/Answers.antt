-- `put_devices` meets its contract: the entries of the held devices, one after the other (Devices). Assumes nothing.
use Rattle.printing.proofs.Putting.{puts_nothing, puts_more}
use Rattle.printing.proofs.Devices.{devices_none, devices_more}
use Rattle.printing.proofs.held.put_devices.Goals as goal

pub loop-device-init : goal.loop-device-init
loop-device-init c = search (puts_nothing, devices_none)

pub loop-device-preserved : goal.loop-device-preserved
loop-device-preserved c = search (puts_more, devices_more)
