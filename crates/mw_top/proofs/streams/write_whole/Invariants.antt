-- What was done so far is at the sink's end, and it hasn't failed.
use Rattle.std.proofs.Common.{◌≡◌, ◌≤◌, ◌-◌, length, take}
use Rattle.std.specs.Io.KnownBytes.{Appends}
use Rattle.mw_top.proofs.streams.write_whole.Given as goal

abbrev pub invariant-loop-done : goal.invariant-loop-done
invariant-loop-done g l = record {
  held : Appends (g.K.Sink.held l.fn.sink) (g.K.Sink.held l.sink) (take l.done l.text);
  same : g.K.Sink.faults l.sink ≡ g.K.Sink.faults l.fn.sink;
  within : l.done ≤ length l.text;
}

abbrev pub decreases-loop-done : goal.decreases-loop-done
decreases-loop-done g l = length l.text - l.done
