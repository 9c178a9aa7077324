use Rattle.std.proofs.Common.{◌∙◌, List, subst}
use Rattle.mw_chart.specs.Chart.{Adds, CellsHold, ScansProduction}
use Rattle.mw_chart.specs.declared.table.Production.{Production}
use Rattle.mw_chart.proofs.Lists.{get_is}
use Rattle.mw_chart.proofs.Adding.{Each, among_more, among_all}
use Rattle.mw_chart.proofs.Listings.{begins_listed}
use Rattle.mw_chart.proofs.scanning.scan_productions.Goals as goal

pub loop-production-preserved : goal.loop-production-preserved
loop-production-preserved c = record {
  len = c.in_ok-scan_production.ensures.len ∙ c.loop-production.invariant.len;
  adds = among_more _ _ _ _ _ _ (λ s. ScansProduction c.args.table.now c.args.text.now c.args.i s) (get_is _ c.loop-production.production-index (record { state = 0; operator = 0 }) c.loop-production-test.true) c.loop-production.invariant.adds c.in_ok-scan_production.ensures.ok;
}

pub returns-clause-ok : goal.returns-clause-ok
returns-clause-ok c =
    let all = among_all _ _ c.listed-productions.result.now c.loop-production.production-index (λ s. ScansProduction c.args.table.now c.args.text.now c.args.i s) c.loop-production-test.false c.loop-production.invariant.adds in
    begins_listed _ _ c.args.table.now c.args.text.now c.args.i _ c.requires.table
    (get_is c.args.text.now c.args.i c.index-text-i.result c.requires.below)
    (subst (λ (l : List Production). Adds (CellsHold c.args.cells.now.items) (CellsHold c.loop-production.cells.items) (Each l (ScansProduction c.args.table.now c.args.text.now c.args.i))) c.listed-productions.ensures all)
