use Rattle.std.specs.Prelude.{ℕ, ◌≤◌}
use Rattle.mw_logic.specs.Signature.{Operator, IsOperator}
use Rattle.mw_least.specs.Sure.{IsNone, IsSupported}
use Rattle.mw_least.proofs.sure.partial_operators.Given as goal

abbrev pub invariant-loop-index : goal.invariant-loop-index
invariant-loop-index l = (f : ℕ) (o : Operator) → f ≤ l.index → IsOperator l.signature f o → IsNone l.partial f → IsSupported l.signature.pairs l.tops o
