use Rattle.std.proofs.Common.{◌≡◌, [], drop}
use Rattle.mw_match.specs.Levels.{taken_by}
use Rattle.mw_match.proofs.levels.numbers_taken.Given as goal

abbrev pub invariant-loop-i : goal.invariant-loop-i
invariant-loop-i l = taken_by [] l.levels ≡ taken_by l.made.items (drop l.i l.levels)
