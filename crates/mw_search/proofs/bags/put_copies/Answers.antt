use Rattle.mw_search.proofs.BagLists.{copied_more}
use Rattle.mw_search.proofs.bags.put_copies.Goals as goal

pub loop-preserved : goal.loop-preserved
loop-preserved c = copied_more c.loop.made.items c.push.new.self.items c.args.made.now.items c.loop.counter c.args.term.now c.in_ok-copy.field-0 c.loop.invariant c.in_ok-push.ensures.items c.in_ok-copy.ensures
