use Rattle.std.proofs.Common.{arith}
use Rattle.mw_search.proofs.Meeting.{one_goes, one_none}
use Rattle.mw_search.proofs.rows.one_met.Goals as goal

pub returns-then-from-elements : goal.returns-then-from-elements
returns-then-from-elements c = λ sig single vs k. one_none sig single c.args.row.now c.arguments-elements.result.now c.args.from _ c.arguments-elements.ensures (omega arith)

pub returns : goal.returns
returns c = λ sig single vs k. one_goes sig single c.args.pattern.now c.args.row.now c.args.first.now c.index-elements-from.result c.in_ok-first.first c.in_ok-met.met c.in_ok-pattern.pattern c.in_ok-row.row c.arguments-elements.result.now c.args.then c.args.from
    c.arguments-elements.ensures (omega arith) c.index-elements-from.is c.in_ok-first.ensures c.in_ok-met.ensures c.in_ok-pattern.ensures c.in_ok-row.ensures vs k
