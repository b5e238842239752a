-- `put_counts` meets its contract: the costs, and the two counts around them. Assumes nothing.
use mathlib.Core.Path.{◌≡◌}
use borrow.Author.Rules.{rules}
use lib.ListN.{replicate}
use lib.IntN.{pos}
use Rattle.dimacs.proofs.Putting.{counts_put}
use Rattle.dimacs.proofs.counts.put_counts.Goals as goal

pub returns : goal.returns
returns c =
    let d = c.args.declared in
    let costs : c.fill.new.self ≡ replicate d.variables (pos 1) = search rules in
    let put = counts_put d.variables d.clauses c.args.room.now c.requires costs in
    search rules
