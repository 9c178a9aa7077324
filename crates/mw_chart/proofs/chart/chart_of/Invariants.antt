use Rattle.std.proofs.Common.{◌≡◌, ◌≤◌, ◌+◌, length}
use Rattle.mw_chart.specs.Row.{AreRows}
use Rattle.mw_chart.proofs.chart.chart_of.Given as goal

abbrev pub invariant-loop-i : goal.invariant-loop-i
invariant-loop-i l = record {
  count : length l.rows.items ≡ length l.text + 1;
  low : l.i ≤ length l.text;
  rows : AreRows l.table l.text l.i l.rows.items;
}

abbrev pub decreases-loop-i : goal.decreases-loop-i
decreases-loop-i l = l.i
