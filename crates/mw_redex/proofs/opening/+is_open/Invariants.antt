use Rattle.std.proofs.Common.{length}
use Rattle.mw_redex.proofs.opening.+is_open.Given as goal

abbrev pub decreases-is_open : goal.decreases-is_open
decreases-is_open l = length l.path.now
