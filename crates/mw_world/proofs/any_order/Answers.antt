use Rattle.mw_world.proofs.Order.{any_order}
use Rattle.mw_world.proofs.any_order.Goals as goal

pub returns : goal.returns
returns c = any_order
