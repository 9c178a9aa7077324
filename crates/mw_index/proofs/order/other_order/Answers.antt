use Rattle.std.proofs.Common.{◌∙◌}
use Rattle.mw_index.proofs.OneByOne.{counted_order}
use Rattle.mw_index.proofs.order.other_order.Goals as goal

pub returns-then-are_counted : goal.returns-then-are_counted
returns-then-are_counted c = counted_order c.args.places.now c.args.variables.now c.as_slice.result.now c.requires.count c.requires.among (c.as_slice.ensures ∙ c.in_ok-order.ensures) (c.are_counted.ensures c.if-are_counted.true)
