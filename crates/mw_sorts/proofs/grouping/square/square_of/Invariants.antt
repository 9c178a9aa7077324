use Rattle.std.proofs.Common.{map, length}
use Rattle.mw_term.specs.Signatures.{sorted_of}
use Rattle.mw_sorts.proofs.Matched.{AreMatched, IsColumnFor}
use Rattle.mw_sorts.proofs.grouping.square.square_of.Given as goal

abbrev pub invariant-loop-entry : goal.invariant-loop-entry
invariant-loop-entry l = AreMatched (IsColumnFor l.places l.diagram (length l.entries) l.lists) l.entry-index (map sorted_of l.entries) l.columns.items
