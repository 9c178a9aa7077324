use Rattle.std.proofs.Common.{sym, subst}
use Rattle.mw_poset.specs.SortOrder.{SortOrder}
use Rattle.mw_poset.specs.Order.{IsSort}
use Rattle.mw_poset.proofs.Steps.{above-within}
use Rattle.mw_poset.proofs.direct.Links.above.Goals as goal

pub returns-clause-within : goal.returns-clause-within
returns-clause-within c =
    rw (c.as_slice.ensures, ← c.self.view_is)
    (above-within c.self.inside.sorts c.self.inside.pairs.items c.self.inside.above.items c.args.sort c.index.result.now c.self.invariant (subst (λ (o : SortOrder). IsSort o.sorts c.args.sort) (sym c.self.view_is) c.requires) c.index.ensures)
