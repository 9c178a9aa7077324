use Rattle.mw_prefix.proofs.KindTests.{kind_in, kind_is, no_kind}
use Rattle.mw_prefix.proofs.taking.is_leaf_kind.Goals as goal

pub returns-in-Some : goal.returns-in-Some
returns-in-Some c = λ there name h. kind_is c.args.facts.now c.shows.ensures there name c.args.leaves c.in-Some.found c.args.kind c.kind_of.result h c.in-Some.is (kind_in c.args.facts.now c.args.order.now c.args.kind c.kind_of.result c.requires.order c.kind_of.ensures)

pub returns-in-None : goal.returns-in-None
returns-in-None c = λ there name h. no_kind c.args.facts.now there name c.args.leaves c.args.kind h c.in-None.is
