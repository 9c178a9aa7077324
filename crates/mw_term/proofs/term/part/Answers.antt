use Rattle.std.proofs.Common.{length, arith}
use Rattle.mw_term.proofs.Parts.{part_is, to_the_end}
use Rattle.mw_term.proofs.term.part.Goals as goal

pub returns : goal.returns
returns c = part_is c.args.terms.now _ c.args.from c.args.count c.min-start.result c.min-end.result (omega arith) (to_the_end c.args.terms.now c.min-start.result (length c.args.terms.now) (omega arith)) (omega arith)
