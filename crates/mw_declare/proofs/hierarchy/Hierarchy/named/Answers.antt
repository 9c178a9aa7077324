use Rattle.std.proofs.Common.{refl}
use Rattle.mw_declare.proofs.LeastKinds.{sort_there, kind_found}
use Rattle.mw_declare.proofs.hierarchy.Hierarchy.named.Goals as goal

pub kind_of-kind-requires : goal.kind_of-kind-requires
kind_of-kind-requires c =
    sort_there c.args.self.now _ c.self.view_is c.self.inside.order c.self.invariant c.args.name.now c.args.name.now refl c.requires c.in_ok-sort.sort c.in_ok-sort.ensures

pub returns-clause-kind : goal.returns-clause-kind
returns-clause-kind c =
    kind_found c.args.self.now _ c.self.view_is c.self.inside.order c.self.invariant c.args.name.now c.args.name.now refl c.requires c.in_ok-sort.sort c.in_ok-sort.ensures
    c.kind_of-kind.result c.kind_of-kind.ensures
