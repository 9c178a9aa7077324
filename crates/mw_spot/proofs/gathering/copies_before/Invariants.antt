use Rattle.std.proofs.Common.{◌≡◌, take, reverse}
use Rattle.mw_logic.specs.Terms.{terms_of}
use Rattle.mw_spot.specs.Spots.{all_before}
use Rattle.mw_spot.proofs.gathering.copies_before.Given as goal

abbrev pub invariant-loop-level : goal.invariant-loop-level
invariant-loop-level l = terms_of l.args.items ≡ all_before (reverse (take l.level-index l.levels))
