use Rattle.std.proofs.Common.{◌≡◌, ◌+◌, ◌<◌, ◌≤◌, length}
use Rattle.mw_command.specs.Commands.{closes_before_colon}
use Rattle.mw_command.proofs.naming.closes_before_colon.Given as goal

abbrev pub invariant-loop-rest : goal.invariant-loop-rest
invariant-loop-rest l = record {
  rest : closes_before_colon l.depth l.rest ≡ closes_before_colon 1 l.tokens;
  some : 0 < l.depth;
  few : l.depth + length l.rest ≤ length l.tokens + 1;
}

abbrev pub decreases-loop-rest : goal.decreases-loop-rest
decreases-loop-rest l = length l.rest
