use Rattle.std.proofs.Common.{◌↔◌, suc, length}
use Rattle.mw_arguments.specs.Places.{Rise}
use Rattle.mw_check.proofs.parts.rise.Given as goal

abbrev pub invariant-loop-rest : goal.invariant-loop-rest
invariant-loop-rest l = Rise 1 (suc l.count) l.numbers ↔ Rise (suc l.before) (suc l.count) l.rest

abbrev pub decreases-loop-rest : goal.decreases-loop-rest
decreases-loop-rest l = length l.rest
