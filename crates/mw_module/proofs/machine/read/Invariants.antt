use Rattle.std.proofs.Common.{◌≡◌, ◌+◌, ◌≤◌, length}
use Rattle.mw_module.specs.Reading.{reading, read_at, seen_state}
use Rattle.mw_module.proofs.machine.read.Given as goal

abbrev pub invariant-loop-rest : goal.invariant-loop-rest
invariant-loop-rest l = record {
  read : reading l.tokens l.want l.i (seen_state l.state) l.rest ≡ read_at l.fn.place l.fn.role l.want l.tokens;
  size : l.i + length l.rest ≡ length l.tokens;
  depth : l.state.depth ≤ l.i;
}

abbrev pub decreases-loop-rest : goal.decreases-loop-rest
decreases-loop-rest l = length l.rest
