use Rattle.std.proofs.Common.{◌≡◌, ◌≤◌, ◌-◌, ℕ, List, length}
use Rattle.std.specs.Io.KnownBytes.{Appends}
use Rattle.mw_top.specs.Sources.{Answered}
use Rattle.mw_top.proofs.units.answer_units.Given as goal

abbrev pub invariant-loop-at : goal.invariant-loop-at
invariant-loop-at g l = record {
  within : l.at ≤ length l.tokens;
  same : g.K.Sink.faults l.sink ≡ g.K.Sink.faults l.fn.sink;
  done : (text : List ℕ) × Answered l.purpose l.tokens l.at l.session text l.refused × Appends (g.K.Sink.held l.fn.sink) (g.K.Sink.held l.sink) text;
}

abbrev pub decreases-loop-at : goal.decreases-loop-at
decreases-loop-at g l = length l.tokens - l.at
