use Rattle.std.proofs.Common.{◌≤◌, ◌↔◌, ℕ, length}
use Rattle.mw_chart.specs.Bits.{IsSet}
use Rattle.mw_chart.proofs.bits.reserve.Given as goal

abbrev pub invariant-loop : goal.invariant-loop
invariant-loop l = record {
  long : l.counter ≤ length l.set.items;
  same : (y : ℕ) → IsSet l.set.items y ↔ IsSet l.initial.set.items y;
}
