use Rattle.std.proofs.Common.{take}
use Rattle.typed.specs.Printing.{digits_of}
use Rattle.printing.specs.Lines.{spaced}
use Rattle.printing.specs.Contract.{Puts}
use Rattle.printing.proofs.Page.put_numbers.Given as goal

-- Invariant: the numbers so far were put.
abbrev pub invariant-loop-number : goal.invariant-loop-number
invariant-loop-number l = Puts (spaced digits_of (take l.number-index l.numbers)) l.initial.self l.self
