use Rattle.std.proofs.Common.{◌≡◌, ◌++◌, length}
use Rattle.mw_block.specs.Matches.{value_lines, pairs_of}
use Rattle.mw_block.proofs.matching.write_values.Given as goal

abbrev pub invariant-loop-rest : goal.invariant-loop-rest
invariant-loop-rest l = l.text.items ++ value_lines l.signature (pairs_of l.rest) ≡ l.fn.text.items ++ value_lines l.signature (pairs_of l.bindings)

abbrev pub decreases-loop-rest : goal.decreases-loop-rest
decreases-loop-rest l = length l.rest
