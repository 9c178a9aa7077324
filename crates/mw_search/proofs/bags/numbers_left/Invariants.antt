use Rattle.std.proofs.Common.{◌≡◌, ◌++◌, drop}
use Rattle.mw_matching.specs.Multisets.{numbers_without}
use Rattle.mw_search.proofs.bags.numbers_left.Given as goal

abbrev pub invariant-loop-i : goal.invariant-loop-i
invariant-loop-i l = l.made.items ++ numbers_without (drop l.i l.numbers) (drop l.i l.taken) ≡ numbers_without l.numbers l.taken
