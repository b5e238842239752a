use Rattle.std.proofs.Common.{map, take}
use Rattle.sheet.specs.Coded.{entry_of}
use Rattle.printing.specs.Lines.{printed_entries}
use Rattle.printing.specs.Contract.{Puts}
use Rattle.rails.specs.Rails.{in_variables}
use Rattle.wcnf.proofs.lines.put_entries.Given as goal

-- Invariant: the entries so far were put.
abbrev pub invariant-loop-code : goal.invariant-loop-code
invariant-loop-code l = Puts (printed_entries (in_variables (map entry_of (take l.code-index l.codes)))) l.initial.page l.page
