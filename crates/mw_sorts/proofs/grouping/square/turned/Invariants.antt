use Rattle.mw_sorts.specs.Squares.{IsTurnedRow}
use Rattle.mw_sorts.proofs.Matched.{IsCounted}
use Rattle.mw_sorts.proofs.grouping.square.turned.Given as goal

abbrev pub invariant-loop-row : goal.invariant-loop-row
invariant-loop-row l = IsCounted (IsTurnedRow l.lists) l.row l.rows.items
