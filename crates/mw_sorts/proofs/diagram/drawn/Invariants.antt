use Rattle.std.proofs.Common.{map}
use Rattle.mw_term.specs.Signatures.{sorted_of}
use Rattle.mw_sorts.proofs.Layers.{IsDrawnSoFar}
use Rattle.mw_sorts.proofs.diagram.drawn.Given as goal

abbrev pub invariant-loop-place : goal.invariant-loop-place
invariant-loop-place l = IsDrawnSoFar l.sorting l.operator l.place l.levels.items (map (map sorted_of) l.lists.items) l.states.value
