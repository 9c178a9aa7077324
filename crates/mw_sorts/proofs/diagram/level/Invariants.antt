use Rattle.std.proofs.Common.{map}
use Rattle.mw_term.specs.Signatures.{sorted_of}
use Rattle.mw_sorts.specs.States.{ways}
use Rattle.mw_sorts.proofs.Growing.{IsLevelSoFar}
use Rattle.mw_sorts.proofs.diagram.level.Given as goal

abbrev pub invariant-loop-number : goal.invariant-loop-number
invariant-loop-number l = IsLevelSoFar l.sorting.signature (ways l.operator) l.place (map sorted_of l.entries) l.number l.states l.next l.rows.items
