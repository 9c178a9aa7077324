use Rattle.std.proofs.Common.{length}
use Rattle.mw_frames.proofs.limits.+grows.Given as goal

abbrev pub decreases-grows : goal.decreases-grows
decreases-grows l = length l.around.frames.now
