use Rattle.std.proofs.Common.{◌≡◌, ◌≤◌, ◌-◌, suc}
use Rattle.mw_matching.specs.Found.{numbers_from}
use Rattle.mw_match.proofs.takes.numbers.Given as goal

abbrev pub invariant-loop-i : goal.invariant-loop-i
invariant-loop-i l = record {
  so_far : l.made.items ≡ numbers_from (suc l.from) (l.i - l.from);
  below : l.i - l.from ≤ l.end - l.from;
}
