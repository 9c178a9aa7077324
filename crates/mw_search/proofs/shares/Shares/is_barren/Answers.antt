use Rattle.std.proofs.Common.{subst, sym}
use Rattle.mw_search.specs.Clashes.{IsPassed}
use Rattle.mw_search.specs.Goals.{shares_left}
use Rattle.mw_search.specs.declared.shares.Shares.{Shares}
use Rattle.mw_search.proofs.shares.Shares.is_barren.Goals as goal

pub returns-in-OfRow : goal.returns-in-OfRow
returns-in-OfRow c = λ w.
    subst (λ (s : Shares). IsPassed c.args.facts.now c.args.positions.now.single.items c.args.values.now c.args.pattern.now (shares_left s)) (sym c.in-OfRow.is)
    (c.is_barren.ensures c.args.pattern.now w)
