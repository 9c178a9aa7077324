use Rattle.std.proofs.Common.{map}
use Rattle.mw_term.specs.Signatures.{sorted_of}
use Rattle.mw_sorts.proofs.Matched.{AreMatched, IsRowFor}
use Rattle.mw_sorts.proofs.grouping.square.all_rows.Given as goal

abbrev pub invariant-loop-entry : goal.invariant-loop-entry
invariant-loop-entry l = AreMatched (IsRowFor l.places l.fn.diagram) l.entry-index (map sorted_of l.entries) l.rows.items
