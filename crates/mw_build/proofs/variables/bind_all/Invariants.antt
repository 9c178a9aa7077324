use Rattle.std.proofs.Common.{◌≡◌, length, map}
use Rattle.mw_term.specs.Statements.{fragment_of}
use Rattle.mw_build.specs.Statements.{bound_by}
use Rattle.mw_build.proofs.variables.bind_all.Given as goal

abbrev pub invariant-loop-rest : goal.invariant-loop-rest
invariant-loop-rest l = bound_by l.bound (map fragment_of l.rest) ≡ bound_by l.fn.bound (map fragment_of l.fragments)

abbrev pub decreases-loop-rest : goal.decreases-loop-rest
decreases-loop-rest l = length l.rest
