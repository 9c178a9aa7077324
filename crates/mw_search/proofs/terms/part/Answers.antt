use Rattle.std.proofs.Common.{◌-◌, length, arith, take, drop, refl}
use Rattle.mw_search.proofs.Lists.{part_is}
use Rattle.mw_search.proofs.terms.part.Goals as goal

pub returns : goal.returns
returns c = part_is c.args.elements.now (take (length c.args.elements.now - c.min-start.result) (drop c.min-start.result c.args.elements.now)) c.args.from c.args.count c.min-start.result c.min-end.result (omega arith) refl (omega arith)
