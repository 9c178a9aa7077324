use Rattle.mw_chart.specs.Row.{AreBare}
use Rattle.mw_chart.proofs.chart.empty_rows.Given as goal

abbrev pub invariant-loop-i : goal.invariant-loop-i
invariant-loop-i l = AreBare l.i l.rows.items
