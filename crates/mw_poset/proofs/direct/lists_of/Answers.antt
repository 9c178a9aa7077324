use Rattle.mw_poset.proofs.Steps.{lists_more}
use Rattle.mw_poset.proofs.direct.lists_of.Goals as goal

pub loop-lower-preserved : goal.loop-lower-preserved
loop-lower-preserved c =
    lists_more c.args.sorts c.args.pairs.now c.loop-lower.lower-index c.loop-lower.lists.items c.index_mut-list.result.now c.push.new.self c.loop-lower-test.true
    (c.requires c.loop-lower.lower-index (0, 0) c.loop-lower-test.true).0 c.loop-lower.invariant c.index_mut-list.ensures.value c.in_ok-push.ensures
