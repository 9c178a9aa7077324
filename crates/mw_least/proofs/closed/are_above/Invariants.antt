use Rattle.std.specs.Prelude.{length, map}
use Rattle.mw_term.specs.Signatures.{sorted_of}
use Rattle.mw_least.specs.Closed.{AreAbove}
use Rattle.mw_least.proofs.closed.are_above.Given as goal

abbrev pub invariant-loop-rest : goal.invariant-loop-rest
invariant-loop-rest l = AreAbove l.order.pairs l.sort (map sorted_of l.rest) → AreAbove l.order.pairs l.sort (map sorted_of l.sorts)

abbrev pub decreases-loop-rest : goal.decreases-loop-rest
decreases-loop-rest l = length l.rest
