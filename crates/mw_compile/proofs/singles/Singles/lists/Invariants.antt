use Rattle.std.proofs.Common.{◌≡◌, length}
use Rattle.mw_solving.specs.Values.{AreSure}
use Rattle.mw_compile.proofs.singles.Singles.lists.Given as goal

abbrev pub invariant-loop-sort : goal.invariant-loop-sort
invariant-loop-sort l = record {
  sure : AreSure l.self l.lists.items l.sorts;
  size : length l.lists.items ≡ l.sort-index;
}
