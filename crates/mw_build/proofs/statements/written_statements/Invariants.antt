use Rattle.std.proofs.Common.{◌≡◌, ◌++◌, length}
use Rattle.mw_module.specs.Units.{seen_statements}
use Rattle.mw_build.specs.Sides.{sides_of, all_seen_sides}
use Rattle.mw_build.proofs.statements.written_statements.Given as goal

abbrev pub invariant-loop-rest : goal.invariant-loop-rest
invariant-loop-rest l = all_seen_sides l.found.items ++ sides_of (seen_statements l.rest) ≡ sides_of (seen_statements l.statements)

abbrev pub decreases-loop-rest : goal.decreases-loop-rest
decreases-loop-rest l = length l.rest
