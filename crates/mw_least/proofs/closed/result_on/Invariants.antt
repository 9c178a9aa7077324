use Rattle.std.specs.Prelude.{length, ◌≤◌}
use Rattle.mw_logic.specs.Signature.{Declaration, Member}
use Rattle.mw_least.specs.Closed.{TakesTo}
use Rattle.mw_least.proofs.closed.result_on.Given as goal

abbrev pub invariant-loop-rest : goal.invariant-loop-rest
invariant-loop-rest l = ((d : Declaration) → Member d l.rest → Member d l.operator.declarations) × (1 ≤ l.least → TakesTo l.order.pairs l.operator l.sort l.least)

abbrev pub decreases-loop-rest : goal.decreases-loop-rest
decreases-loop-rest l = length l.rest
