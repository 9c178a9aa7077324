use Rattle.mw_chart.specs.Chart.{Adds, Holds, PredictsItem}
use Rattle.mw_chart.specs.Nothing.{Nothing}
use Rattle.mw_chart.proofs.Adding.{Among}
use Rattle.mw_chart.proofs.predicting.predict.Given as goal

abbrev pub invariant-loop-item : goal.invariant-loop-item
invariant-loop-item l = Adds Nothing (Holds l.predicted.items) (Among l.cell.items l.item-index (PredictsItem l.table l.text l.at))
