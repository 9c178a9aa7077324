use Rattle.std.proofs.Common.{nat_eq, ap}
use Rattle.mw_declare.proofs.LeastKinds.{kind_here}
use Rattle.mw_declare.proofs.hierarchy.Hierarchy.names_kind.Goals as goal

pub returns : goal.returns
returns c =
    ap (λ K. nat_eq K c.args.sort)
    (kind_here c.args.self.now _ c.self.view_is c.self.inside.order c.self.invariant c.args.sort c.kind_of.result c.requires c.kind_of.ensures)
