use Rattle.std.specs.Prelude.{length}
use Rattle.mw_logic.specs.Signature.{Member}
use Rattle.mw_least.specs.declared.closed.Closed.{Closed}
use Rattle.mw_least.proofs.closed.home_of.Given as goal

abbrev pub invariant-loop-rest : goal.invariant-loop-rest
invariant-loop-rest l = (c : Closed) → Member c l.rest → Member c l.closed

abbrev pub decreases-loop-rest : goal.decreases-loop-rest
decreases-loop-rest l = length l.rest
