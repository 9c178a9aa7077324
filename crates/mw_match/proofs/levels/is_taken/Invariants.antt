use Rattle.std.proofs.Common.{◌≡◌, drop}
use Rattle.mw_match.specs.Levels.{is_on}
use Rattle.mw_match.proofs.levels.is_taken.Given as goal

abbrev pub invariant-loop-i : goal.invariant-loop-i
invariant-loop-i l = is_on l.index l.levels ≡ is_on l.index (drop l.i l.levels)
