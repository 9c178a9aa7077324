use Rattle.mw_search.specs.Goals.{order_share}
use Rattle.mw_search.proofs.Meeting.{orders_pass}
use Rattle.mw_search.proofs.shares.Orders.pass.Goals as goal

pub returns-then-self-len : goal.returns-then-self-len
returns-then-self-len c = orders_pass (order_share c.args.self.now) c.args.self.now.lists.items c.args.self.now.next
