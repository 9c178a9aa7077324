-- What was read so far is what the source gave, and it hasn't failed.
use Rattle.std.proofs.Common.{◌≡◌, ◌≤◌, ◌-◌, length}
use Rattle.std.specs.Io.KnownBytes.{Consumes}
use Rattle.mw_top.proofs.streams.read_to_end.Given as goal

abbrev pub invariant-loop-bytes : goal.invariant-loop-bytes
invariant-loop-bytes g l = record {
  given : Consumes (g.S.Source.left l.fn.source) (g.S.Source.left l.source) l.bytes.items;
  same : g.S.Source.faults l.source ≡ g.S.Source.faults l.fn.source;
  within : length l.bytes.items ≤ 8388608;
}

abbrev pub decreases-loop-bytes : goal.decreases-loop-bytes
decreases-loop-bytes g l = 8388609 - length l.bytes.items
