use Rattle.std.proofs.Common.{length}
use Rattle.mw_spot.proofs.spotting.+climb.Given as goal

abbrev pub decreases-climb : goal.decreases-climb
decreases-climb l = length l.levels.now
