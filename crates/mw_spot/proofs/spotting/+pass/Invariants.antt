use Rattle.std.proofs.Common.{length}
use Rattle.mw_spot.proofs.spotting.+pass.Given as goal

abbrev pub decreases-pass : goal.decreases-pass
decreases-pass l = length l.levels.now
