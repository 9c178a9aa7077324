use Rattle.std.proofs.Common.{map}
use Rattle.std.specs.Prelude.{option_map}
use Rattle.mw_term.specs.Signatures.{sorted_of}
use Rattle.mw_sorts.proofs.Growing.{AreEndsSoFar}
use Rattle.mw_sorts.proofs.diagram.ends.Given as goal

abbrev pub invariant-loop-number : goal.invariant-loop-number
invariant-loop-number l = AreEndsSoFar l.sorting.signature l.operator l.number l.states (map (option_map sorted_of) l.ends.items)
