use Rattle.std.proofs.Common.{length}
use Rattle.mw_chart.specs.Chart.{Adds, CellsHold}
use Rattle.mw_chart.specs.Row.{IsReady, CompletesAt}
use Rattle.mw_chart.proofs.Adding.{Among}
use Rattle.mw_chart.proofs.completing.complete_end.Given as goal

abbrev pub invariant-loop-place : goal.invariant-loop-place
invariant-loop-place l = record {
  ready : IsReady l.over.n (length l.initial.agenda.cells.items) l.over.row.now l.agenda;
  adds : Adds (CellsHold l.initial.agenda.cells.items) (CellsHold l.agenda.cells.items) (Among l.place-items l.place-index (CompletesAt l.over.table.now l.over.row.now.constituents.items l.over.n l.over.kind l.over.below l.over.next l.over.tree.now));
}
