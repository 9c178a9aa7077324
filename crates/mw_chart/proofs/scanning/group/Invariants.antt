use Rattle.std.proofs.Common.{◌≡◌, length}
use Rattle.mw_chart.specs.Chart.{Adds, CellsHold, GroupsBy}
use Rattle.mw_chart.proofs.Adding.{Among}
use Rattle.mw_chart.proofs.scanning.group.Given as goal

abbrev pub invariant-loop-constituent : goal.invariant-loop-constituent
invariant-loop-constituent l = record {
  len : length l.cells.items ≡ length l.initial.cells.items;
  adds : Adds (CellsHold l.initial.cells.items) (CellsHold l.cells.items) (Among l.row.items l.constituent-index (GroupsBy l.table l.text));
}
