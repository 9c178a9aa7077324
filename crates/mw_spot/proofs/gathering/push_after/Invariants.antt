use Rattle.std.proofs.Common.{◌≡◌, ◌≤◌, length, reverse}
use Rattle.mw_logic.specs.Term.{join}
use Rattle.mw_logic.specs.Terms.{terms_of}
use Rattle.mw_spot.specs.Spots.{all_after}
use Rattle.mw_spot.proofs.gathering.push_after.Given as goal

abbrev pub invariant-loop-rest : goal.invariant-loop-rest
invariant-loop-rest l = record {
  to_come : join (terms_of l.args.items) (all_after (reverse l.rest)) ≡ join (terms_of l.fn.args.items) (all_after (reverse l.levels));
  within : length l.rest ≤ length l.levels;
}

abbrev pub decreases-loop-rest : goal.decreases-loop-rest
decreases-loop-rest l = length l.rest
