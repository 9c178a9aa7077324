use Rattle.std.proofs.Common.{◌≡◌, ◌++◌, length}
use Rattle.mw_block.specs.Refused.{spaced}
use Rattle.mw_block.proofs.refused.write_spaced.Given as goal

abbrev pub invariant-loop-rest : goal.invariant-loop-rest
invariant-loop-rest l = l.text.items ++ spaced l.rest ≡ l.fn.text.items ++ spaced l.names

abbrev pub decreases-loop-rest : goal.decreases-loop-rest
decreases-loop-rest l = length l.rest
