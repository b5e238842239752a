-- `Coded::rule` gives the codes of a rule. Assumes nothing.
use Rattle.needed.proofs.RuleCodes.{rule_is}
use Rattle.needed.proofs.coded.Coded.rule.Goals as goal

pub returns-then-r-self : goal.returns-then-r-self
returns-then-r-self c = search rule_is
