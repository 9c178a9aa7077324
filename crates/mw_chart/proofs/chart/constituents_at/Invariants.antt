use Rattle.std.proofs.Common.{◌≤◌, ◌+◌, ◌-◌, length}
use Rattle.mw_chart.specs.Chart.{IsCells, IsRow}
use Rattle.mw_chart.specs.Row.{AreFull}
use Rattle.mw_chart.proofs.chart.constituents_at.Given as goal

abbrev pub invariant-loop-cell : goal.invariant-loop-cell
invariant-loop-cell l = record {
  shape : l.i + length l.agenda.cells.items ≤ length l.text;
  cells : IsCells l.table l.text l.i (length l.text - length l.agenda.cells.items) l.agenda.cells.items;
  constituents : IsRow l.table l.text l.i (length l.text - length l.agenda.cells.items) l.constituents.items;
  full : AreFull (length l.text) l.agenda.full.items l.agenda.cells.items;
}

abbrev pub decreases-loop-cell : goal.decreases-loop-cell
decreases-loop-cell l = length l.agenda.cells.items
