use Rattle.std.proofs.Common.{◌≡◌, ◌≤◌, length, take, drop, All}
use Rattle.mw_spot.specs.Spots.{IsAnother}
use Rattle.mw_spot.proofs.gathering.outside.Given as goal

abbrev pub invariant-loop-rest : goal.invariant-loop-rest
invariant-loop-rest l = record {
  begins : l.rest ≡ take (length l.rest) l.levels;
  within : length l.rest ≤ length l.levels;
  more : All (IsAnother l.facts l.operator) (drop (length l.rest) l.levels);
}

abbrev pub decreases-loop-rest : goal.decreases-loop-rest
decreases-loop-rest l = length l.rest
