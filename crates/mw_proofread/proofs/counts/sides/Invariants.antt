use Rattle.std.proofs.Common.{◌≡◌, ◌≤◌, ◌+◌, ◌*◌, length, map}
use Rattle.mw_deduction.specs.Replay.{all_sides}
use Rattle.mw_term.specs.Statements.{fragment_of}
use Rattle.mw_proofread.proofs.counts.sides.Given as goal

abbrev pub invariant-loop-rest : goal.invariant-loop-rest
invariant-loop-rest l = record {
  count : l.count + length (all_sides (map fragment_of l.rest)) ≡ length (all_sides (map fragment_of l.fragments));
  small : l.count + 2 * length l.rest ≤ 2 * length l.fragments;
}

abbrev pub decreases-loop-rest : goal.decreases-loop-rest
decreases-loop-rest l = length l.rest
