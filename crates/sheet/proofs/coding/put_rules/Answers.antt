-- `put_rules` meets its contract: rule by rule its start and its codes, then the end of the last (Putting). Assumes nothing.
use Rattle.sheet.proofs.Putting.{putting_room, putting_more, putting_end}
use Rattle.sheet.proofs.coding.put_rules.Goals as goal

pub put_entries-requires : goal.put_entries-requires
put_entries-requires c = putting_room c.loop-r.invariant c.requires.rules_room c.loop-r-test.true _ c.value_at-width.ensures

pub loop-r-preserved : goal.loop-r-preserved
loop-r-preserved c = putting_more c.loop-r.invariant c.loop-r-test.true _ _ c.value_at-width.ensures c.put_entries.ensures

pub returns : goal.returns
returns c = putting_end c.loop-r.invariant c.loop-r-test.false
