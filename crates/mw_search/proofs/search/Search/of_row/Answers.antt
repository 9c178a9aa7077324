use Rattle.mw_search.proofs.search.Search.of_row.Goals as goal

pub invariant_of-result : goal.invariant_of-result
invariant_of-result c = c.in_ok-machine.ensures.ready c.args.context.now.signature c.args.positions.now
