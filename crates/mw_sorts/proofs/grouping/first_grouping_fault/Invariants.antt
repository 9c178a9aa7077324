use Rattle.std.proofs.Common.{◌≤◌, ℕ}
use Rattle.std.specs.Prelude.{IsTrue}
use Rattle.mw_logic.specs.Signature.{Operator, IsOperator}
use Rattle.mw_sorts.specs.Groupings.{GroupsAlike}
use Rattle.mw_sorts.proofs.grouping.first_grouping_fault.Given as goal

abbrev pub invariant-loop-index : goal.invariant-loop-index
invariant-loop-index l = (g : ℕ) (o : Operator) → g ≤ l.index → IsOperator l.signature g o → IsTrue o.assoc → GroupsAlike l.signature o
