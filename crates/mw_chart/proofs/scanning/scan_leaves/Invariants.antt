use Rattle.std.proofs.Common.{◌≡◌, length}
use Rattle.mw_chart.specs.Chart.{Adds, CellsHold, ScansLeaf}
use Rattle.mw_chart.proofs.Adding.{Among}
use Rattle.mw_chart.proofs.scanning.scan_leaves.Given as goal

abbrev pub invariant-loop-leaf : goal.invariant-loop-leaf
invariant-loop-leaf l = record {
  len : length l.cells.items ≡ length l.initial.cells.items;
  adds : Adds (CellsHold l.initial.cells.items) (CellsHold l.cells.items) (Among l.terminal.leaves.items l.leaf-index (ScansLeaf l.text l.i));
}
