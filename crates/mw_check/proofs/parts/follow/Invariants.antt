use Rattle.std.proofs.Common.{◌↔◌, length}
use Rattle.mw_arguments.specs.Places.{Follow}
use Rattle.mw_check.proofs.parts.follow.Given as goal

abbrev pub invariant-loop-rest : goal.invariant-loop-rest
invariant-loop-rest l = Follow l.numbers ↔ Follow l.rest

abbrev pub decreases-loop-rest : goal.decreases-loop-rest
decreases-loop-rest l = length l.rest
