use Rattle.std.proofs.Common.{◌≡◌, ◌++◌, drop, take}
use Rattle.mw_match.specs.Choices.{put}
use Rattle.mw_match.proofs.levels.place_among.Given as goal

abbrev pub invariant-loop-i : goal.invariant-loop-i
invariant-loop-i l = put l.number l.numbers ≡ take l.i l.numbers ++ put l.number (drop l.i l.numbers)
