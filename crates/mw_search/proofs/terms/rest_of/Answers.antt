use Rattle.std.proofs.Common.{arith}
use Rattle.mw_search.proofs.Lists.{rest_is}
use Rattle.mw_search.proofs.terms.rest_of.Goals as goal

pub returns : goal.returns
returns c = rest_is c.args.elements.now c.args.from c.min-start.result (omega arith)
