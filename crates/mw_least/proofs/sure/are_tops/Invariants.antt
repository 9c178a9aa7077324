use Rattle.std.specs.Prelude.{length, map}
use Rattle.mw_term.specs.Signatures.{sorted_of}
use Rattle.mw_least.specs.Sure.{AreTops}
use Rattle.mw_least.proofs.sure.are_tops.Given as goal

abbrev pub invariant-loop-rest : goal.invariant-loop-rest
invariant-loop-rest l = AreTops l.order.pairs l.tops (map sorted_of l.rest) → AreTops l.order.pairs l.tops (map sorted_of l.sorts)

abbrev pub decreases-loop-rest : goal.decreases-loop-rest
decreases-loop-rest l = length l.rest
