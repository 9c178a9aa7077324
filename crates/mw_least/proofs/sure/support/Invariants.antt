use Rattle.std.specs.Prelude.{length, ◌≤◌}
use Rattle.mw_logic.specs.Signature.{Declaration, Member}
use Rattle.mw_least.specs.Sure.{IsSupport}
use Rattle.mw_least.proofs.sure.support.Given as goal

abbrev pub invariant-loop-rest : goal.invariant-loop-rest
invariant-loop-rest l = ((d : Declaration) → Member d l.rest → Member d l.operator.declarations) × (1 ≤ l.least → IsSupport l.order.pairs l.tops l.operator l.least)

abbrev pub decreases-loop-rest : goal.decreases-loop-rest
decreases-loop-rest l = length l.rest
