use Rattle.std.specs.Prelude.{ℕ, ◌≤◌}
use Rattle.mw_logic.specs.Signature.{Operator, IsOperator, SameKind}
use Rattle.mw_least.specs.Sure.{IsNone}
use Rattle.mw_least.specs.Closed.{IsClosedFor}
use Rattle.mw_least.proofs.closed.outside.Given as goal

abbrev pub invariant-loop-index : goal.invariant-loop-index
invariant-loop-index l = (f : ℕ) (o : Operator) → f ≤ l.index → IsOperator l.signature f o → SameKind l.signature o.result l.sort → IsNone l.outside f → IsClosedFor l.signature.pairs o l.sort
