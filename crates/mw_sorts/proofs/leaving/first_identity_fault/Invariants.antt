use Rattle.std.proofs.Common.{◌≤◌, ℕ}
use Rattle.mw_logic.specs.Signature.{Operator, IsOperator}
use Rattle.mw_sorts.specs.Leaving.{KeepsAllLow}
use Rattle.mw_sorts.proofs.leaving.first_identity_fault.Given as goal

abbrev pub invariant-loop-index : goal.invariant-loop-index
invariant-loop-index l = (g : ℕ) (o : Operator) → g ≤ l.index → IsOperator l.signature g o → KeepsAllLow l.signature o
