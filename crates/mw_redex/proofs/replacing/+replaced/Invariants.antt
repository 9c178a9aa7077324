use Rattle.std.proofs.Common.{length}
use Rattle.mw_redex.proofs.replacing.+replaced.Given as goal

abbrev pub decreases-replaced : goal.decreases-replaced
decreases-replaced l = length l.path.now
