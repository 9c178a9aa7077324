use Rattle.mw_chart.specs.Chart.{Adds, RowHolds, KeepsItem}
use Rattle.mw_chart.proofs.Adding.{Among}
use Rattle.mw_chart.proofs.scanning.keep_cell.Given as goal

abbrev pub invariant-loop-item : goal.invariant-loop-item
invariant-loop-item l = Adds (RowHolds l.initial.row.items) (RowHolds l.row.items) (Among l.cell.items l.item-index (KeepsItem l.table l.at))
