use Rattle.std.proofs.Common.{◌≡◌, ℕ, length}
use Rattle.mw_chart.specs.Listed.{inner}
use Rattle.mw_chart.proofs.numbered.grow.Given as goal

abbrev pub invariant-loop : goal.invariant-loop
invariant-loop g l = record {
  long : length l.lists.items ≡ l.counter;
  same : (i : ℕ) → inner l.lists.items i ≡ inner l.initial.lists.items i;
}
