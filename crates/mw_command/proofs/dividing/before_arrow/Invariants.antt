use Rattle.std.proofs.Common.{◌≡◌, ◌+◌, ◌≤◌, length}
use Rattle.mw_command.specs.Dividing.{before_arrow}
use Rattle.mw_command.proofs.dividing.before_arrow.Given as goal

abbrev pub invariant-loop-rest : goal.invariant-loop-rest
invariant-loop-rest l = record {
  counted : l.count + before_arrow l.depth l.rest ≡ before_arrow 0 l.tokens;
  whole : l.count + length l.rest ≡ length l.tokens;
  levels : l.depth ≤ l.count;
}

abbrev pub decreases-loop-rest : goal.decreases-loop-rest
decreases-loop-rest l = length l.rest
