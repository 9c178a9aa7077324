use Rattle.std.proofs.Common.{◌≡◌, drop}
use Rattle.mw_search.specs.Bags.{are_divided}
use Rattle.mw_search.proofs.bags.are_divided.Given as goal

abbrev pub invariant-loop-number : goal.invariant-loop-number
invariant-loop-number l = are_divided l.divisor l.numbers ≡ are_divided l.divisor (drop l.number-index l.numbers)
