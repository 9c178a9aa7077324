use Rattle.std.proofs.Common.{◌↔◌, length}
use Rattle.mw_check.specs.RowSides.{ArePaired}
use Rattle.mw_check.proofs.rows.are_paired.Given as goal

abbrev pub invariant-loop-rest : goal.invariant-loop-rest
invariant-loop-rest l = ArePaired l.args ↔ ArePaired l.rest

abbrev pub decreases-loop-rest : goal.decreases-loop-rest
decreases-loop-rest l = length l.rest
