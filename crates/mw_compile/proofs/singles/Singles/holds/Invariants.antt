use Rattle.std.proofs.Common.{length}
use Rattle.mw_compile.proofs.singles.Singles.holds.Given as goal

abbrev pub decreases-loop-rest : goal.decreases-loop-rest
decreases-loop-rest l = length l.rest
