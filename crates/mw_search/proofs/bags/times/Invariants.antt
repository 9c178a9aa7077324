use Rattle.std.proofs.Common.{◌≡◌, ◌+◌, ◌≤◌, drop}
use Rattle.mw_logic.specs.Terms.{terms_of}
use Rattle.mw_matching.specs.Multisets.{times_in}
use Rattle.mw_search.proofs.bags.times.Given as goal

abbrev pub invariant-loop-other : goal.invariant-loop-other
invariant-loop-other l = record {
  counted : l.number + times_in l.pattern (terms_of (drop l.other-index l.patterns)) ≡ times_in l.pattern (terms_of l.patterns);
  few : l.number ≤ l.other-index;
}
