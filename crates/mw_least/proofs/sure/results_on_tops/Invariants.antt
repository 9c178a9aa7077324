use Rattle.std.specs.Prelude.{ℕ, List, ◌++◌, length}
use Rattle.mw_least.specs.Sure.{AreResults}
use Rattle.mw_least.proofs.sure.results_on_tops.Given as goal

abbrev pub invariant-loop-rest : goal.invariant-loop-rest
invariant-loop-rest l = (Rs : List ℕ) → AreResults l.order.pairs l.tops l.rest Rs → AreResults l.order.pairs l.tops l.operators (l.results.items ++ Rs)

abbrev pub decreases-loop-rest : goal.decreases-loop-rest
decreases-loop-rest l = length l.rest
