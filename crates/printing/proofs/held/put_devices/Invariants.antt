use Rattle.std.proofs.Common.{take}
use Rattle.hall.specs.Order.{held_entries}
use Rattle.printing.specs.Lines.{printed_entries}
use Rattle.printing.specs.Contract.{Puts}
use Rattle.printing.proofs.held.put_devices.Given as goal

-- Invariant: the devices so far were put.
abbrev pub invariant-loop-device : goal.invariant-loop-device
invariant-loop-device l = Puts (printed_entries (held_entries (take l.device l.plan))) l.initial.page l.page
