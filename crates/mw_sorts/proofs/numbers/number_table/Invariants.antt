use Rattle.std.proofs.Common.{ℕ}
use Rattle.mw_logic.specs.Signature.{IsSuccessor}
use Rattle.mw_sorts.specs.Diagrams.{IsDiagram}
use Rattle.mw_sorts.proofs.Counting.{IsCounted, zeros}
use Rattle.mw_sorts.proofs.numbers.number_table.Given as goal

abbrev pub invariant-loop-places : goal.invariant-loop-places
invariant-loop-places l = (f : ℕ) (is : IsSuccessor l.sorting.signature f) → IsDiagram l.sorting.signature l.sorting.places is.operator l.diagram
    → IsCounted l.sorting is.operator l.zero l.width l.entries.items l.behind.items l.last l.spot

abbrev pub decreases-loop-places : goal.decreases-loop-places
decreases-loop-places l = zeros l.behind.items
