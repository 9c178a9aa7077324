use Rattle.std.proofs.Common.{◌≡◌, ◌+◌, ◌++◌, map, drop}
use Rattle.mw_redex.specs.Waiting.{way_of, ways_to}
use Rattle.mw_redex.proofs.walking.spots_on.Given as goal

abbrev pub invariant-loop-i : goal.invariant-loop-i
invariant-loop-i l = map way_of l.found.items ++ ways_to l.spot.path (l.i + 1) (drop l.i l.args) ≡ ways_to l.spot.path 1 l.args
