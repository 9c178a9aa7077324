use Rattle.std.proofs.Common.{◌≡◌, ◌++◌, length}
use Rattle.mw_block.specs.Matches.{spaced_numbers}
use Rattle.mw_block.proofs.matching.write_numbers.Given as goal

abbrev pub invariant-loop-rest : goal.invariant-loop-rest
invariant-loop-rest l = l.text.items ++ spaced_numbers l.rest ≡ l.fn.text.items ++ spaced_numbers l.numbers

abbrev pub decreases-loop-rest : goal.decreases-loop-rest
decreases-loop-rest l = length l.rest
