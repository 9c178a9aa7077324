use Rattle.std.proofs.Common.{◌≡◌, length, map}
use Rattle.mw_term.specs.Statements.{fragment_of}
use Rattle.mw_build.specs.Statements.{loose}
use Rattle.mw_build.proofs.variables.loose.Given as goal

abbrev pub invariant-loop-rest : goal.invariant-loop-rest
invariant-loop-rest l = loose l.bound (map fragment_of l.rest) ≡ loose l.fn.bound (map fragment_of l.fragments)

abbrev pub decreases-loop-rest : goal.decreases-loop-rest
decreases-loop-rest l = length l.rest
