use Rattle.std.proofs.Common.{ℕ, ◌<◌}
use Rattle.mw_poset.specs.Order.{IsOnCycle}
use Rattle.mw_poset.proofs.preorder.Preorder.least_on_cycle.Given as goal

abbrev pub invariant-loop-k : goal.invariant-loop-k
invariant-loop-k l = (S : ℕ) → IsOnCycle l.self.pairs S → l.k < S
