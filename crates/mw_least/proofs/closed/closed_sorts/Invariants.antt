use Rattle.mw_logic.specs.Signature.{Member}
use Rattle.mw_least.specs.declared.closed.Closed.{Closed}
use Rattle.mw_least.specs.Closed.{IsClosed}
use Rattle.mw_least.proofs.closed.closed_sorts.Given as goal

abbrev pub invariant-loop-sort : goal.invariant-loop-sort
invariant-loop-sort l = (c : Closed) → Member c l.closed.items → IsClosed l.signature c
