use Rattle.std.proofs.Common.{All, take}
use Rattle.mw_spot.specs.Spots.{IsFree}
use Rattle.mw_spot.proofs.spotting.free.Given as goal

abbrev pub invariant-loop-i : goal.invariant-loop-i
invariant-loop-i l = All (IsFree l.facts) (take l.i l.levels)
