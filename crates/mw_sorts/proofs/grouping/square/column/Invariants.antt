use Rattle.mw_term.specs.Signatures.{sorted_of}
use Rattle.mw_sorts.proofs.Matched.{IsCounted, IsPlaceTo}
use Rattle.mw_sorts.proofs.grouping.square.column.Given as goal

abbrev pub invariant-loop-row : goal.invariant-loop-row
invariant-loop-row l = IsCounted (IsPlaceTo l.places l.fn.diagram l.width (sorted_of l.sort)) l.row l.column.items
