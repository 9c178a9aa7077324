use Rattle.std.proofs.Common.{map}
use Rattle.mw_term.specs.Signatures.{sorted_of}
use Rattle.mw_sorts.specs.States.{ways}
use Rattle.mw_sorts.proofs.Growing.{IsRowSoFar}
use Rattle.mw_sorts.proofs.diagram.row.Given as goal

abbrev pub invariant-loop-entry : goal.invariant-loop-entry
invariant-loop-entry l = IsRowSoFar l.sorting.signature (ways l.operator) l.place (map sorted_of l.entries) l.entry-index l.alive l.fn.next l.next l.row.items
