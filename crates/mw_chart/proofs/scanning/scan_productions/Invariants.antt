use Rattle.std.proofs.Common.{◌≡◌, length}
use Rattle.mw_chart.specs.Chart.{Adds, CellsHold, ScansProduction}
use Rattle.mw_chart.proofs.Adding.{Among}
use Rattle.mw_chart.proofs.scanning.scan_productions.Given as goal

abbrev pub invariant-loop-production : goal.invariant-loop-production
invariant-loop-production l = record {
  len : length l.cells.items ≡ length l.initial.cells.items;
  adds : Adds (CellsHold l.initial.cells.items) (CellsHold l.cells.items) (Among l.productions l.production-index (ScansProduction l.table l.text l.i));
}
