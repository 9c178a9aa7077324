use Rattle.std.proofs.Common.{List, subst}
use Rattle.mw_chart.specs.Chart.{Adds, Holds, PredictsProduction}
use Rattle.mw_chart.specs.declared.table.Production.{Production}
use Rattle.mw_chart.proofs.Lists.{get_is}
use Rattle.mw_chart.proofs.Adding.{Each, among_more, among_all}
use Rattle.mw_chart.proofs.Listings.{opens_listed}
use Rattle.mw_chart.proofs.predicting.predict_by.Goals as goal

pub loop-production-preserved : goal.loop-production-preserved
loop-production-preserved c = among_more _ _ _ _ _ _ (λ s. PredictsProduction c.args.table.now c.args.text.now c.args.at c.args.kind c.args.precedence c.args.tree.now s) (get_is _ c.loop-production.production-index (record { state = 0; operator = 0 }) c.loop-production-test.true) c.loop-production.invariant c.in_ok-predict_production.ensures

pub returns : goal.returns
returns c =
    let all = among_all _ _ c.listed-productions.result.now c.loop-production.production-index (λ s. PredictsProduction c.args.table.now c.args.text.now c.args.at c.args.kind c.args.precedence c.args.tree.now s) c.loop-production-test.false c.loop-production.invariant in
    opens_listed _ _ c.args.table.now c.args.text.now c.args.at c.args.kind c.args.precedence c.args.tree.now c.requires
    (subst (λ (l : List Production). Adds (Holds c.args.predicted.now.items) (Holds c.loop-production.predicted.items) (Each l (PredictsProduction c.args.table.now c.args.text.now c.args.at c.args.kind c.args.precedence c.args.tree.now))) c.listed-productions.ensures all)
