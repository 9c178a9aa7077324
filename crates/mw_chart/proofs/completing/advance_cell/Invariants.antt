use Rattle.std.proofs.Common.{length}
use Rattle.mw_chart.specs.Chart.{Adds, CellsHold, AdvancesItem}
use Rattle.mw_chart.specs.Row.{IsReady}
use Rattle.mw_chart.proofs.Adding.{Among}
use Rattle.mw_chart.proofs.completing.advance_cell.Given as goal

abbrev pub invariant-loop-item : goal.invariant-loop-item
invariant-loop-item l = record {
  ready : IsReady (length l.text) (length l.initial.agenda.cells.items) l.row l.agenda;
  adds : Adds (CellsHold l.initial.agenda.cells.items) (CellsHold l.agenda.cells.items) (Among l.cell.items l.item-index (λ s. AdvancesItem l.table l.text l.row.constituents.items l.at s));
}
