use Rattle.std.proofs.Common.{◌≡◌, ◌/◌, take, map}
use Rattle.mw_search.proofs.bags.quotients.Given as goal

abbrev pub invariant-loop-number : goal.invariant-loop-number
invariant-loop-number l = l.made.items ≡ map (λ n. n / l.divisor) (take l.number-index l.numbers)
