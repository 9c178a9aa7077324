use Rattle.mw_index.proofs.OneByOne.{places_more}
use Rattle.mw_index.proofs.SameMembers.{of_slice}
use Rattle.mw_index.proofs.order.order_of.Goals as goal

pub at-requires : goal.at-requires
at-requires c = c.requires c.variable.result.now (of_slice c.variable.result.now c.args.variables.now c.loop-i.i c.variable.ensures)

pub loop-i-preserved : goal.loop-i-preserved
loop-i-preserved c = places_more c.args.places.now c.args.variables.now c.loop-i.i c.variable.result.now c.at.result c.loop-i.order.items c.push.new.self.items c.variable.ensures c.at.ensures c.in_ok-push.ensures.items c.loop-i.invariant
