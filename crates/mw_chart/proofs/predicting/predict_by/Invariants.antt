use Rattle.mw_chart.specs.Chart.{Adds, Holds, PredictsProduction}
use Rattle.mw_chart.proofs.Adding.{Among}
use Rattle.mw_chart.proofs.predicting.predict_by.Given as goal

abbrev pub invariant-loop-production : goal.invariant-loop-production
invariant-loop-production l = Adds (Holds l.initial.predicted.items) (Holds l.predicted.items) (Among l.productions l.production-index (PredictsProduction l.table l.text l.at l.kind l.precedence l.tree))
