use Rattle.mw_chart.specs.Chart.{Adds}
use Rattle.mw_chart.specs.Nothing.{Nothing}
use Rattle.mw_chart.specs.Readings.{Lists, ListedBy}
use Rattle.mw_chart.proofs.Adding.{Among}
use Rattle.mw_chart.proofs.reading.list_all.Given as goal

abbrev pub invariant-loop-constituent : goal.invariant-loop-constituent
invariant-loop-constituent l = Adds Nothing (Lists l.listed.items) (Among l.row.items l.constituent-index (ListedBy l.table l.n))
