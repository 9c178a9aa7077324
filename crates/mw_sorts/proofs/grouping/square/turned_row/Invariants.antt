use Rattle.mw_sorts.proofs.Matched.{AreMatched, IsCellOf}
use Rattle.mw_sorts.proofs.grouping.square.turned_row.Given as goal

abbrev pub invariant-loop-number : goal.invariant-loop-number
invariant-loop-number l = AreMatched (IsCellOf l.row) l.number l.lists l.cells.items
