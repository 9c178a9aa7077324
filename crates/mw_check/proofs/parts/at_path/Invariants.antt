use Rattle.std.proofs.Common.{◌≡◌, length}
use Rattle.mw_redex.specs.Paths.{at_path}
use Rattle.mw_check.proofs.parts.at_path.Given as goal

abbrev pub invariant-loop-rest : goal.invariant-loop-rest
invariant-loop-rest l = at_path l.here l.rest ≡ at_path l.term l.path

abbrev pub decreases-loop-rest : goal.decreases-loop-rest
decreases-loop-rest l = length l.rest
