use Rattle.std.proofs.Common.{length}
use Rattle.mw_chart.specs.Chart.{CellsHold, Completes}
use Rattle.mw_chart.specs.Row.{IsReady, Grows, Covers}
use Rattle.mw_chart.proofs.Covered.{IsInSome}
use Rattle.mw_chart.proofs.completing.complete.Given as goal

abbrev pub invariant-loop-strip : goal.invariant-loop-strip
invariant-loop-strip l = record {
  ready : IsReady l.over.n (length l.initial.agenda.cells.items) l.over.row.now l.agenda;
  grows : Grows (CellsHold l.initial.agenda.cells.items) (CellsHold l.agenda.cells.items) (Completes l.over.table.now l.over.row.now.constituents.items l.over.n l.over.kind l.over.below l.over.next l.over.tree.now);
  covers : Covers (CellsHold l.agenda.cells.items) l.over.table.now l.over.row.now.constituents.items l.over.n l.over.kind l.over.below l.over.next l.over.tree.now (IsInSome l.over.row.now.strips.items l.strip-index);
}
