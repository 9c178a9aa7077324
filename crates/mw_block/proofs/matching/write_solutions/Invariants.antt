use Rattle.std.proofs.Common.{◌≡◌, ◌+◌, ◌++◌, length}
use Rattle.mw_block.specs.Matches.{solutions_lines}
use Rattle.mw_block.proofs.matching.write_solutions.Given as goal

abbrev pub invariant-loop-rest : goal.invariant-loop-rest
invariant-loop-rest l = record {
  written : l.text.items ++ solutions_lines l.signature l.number l.rest ≡ l.fn.text.items ++ solutions_lines l.signature 1 l.solutions;
  within : l.number + length l.rest ≡ 1 + length l.solutions;
}

abbrev pub decreases-loop-rest : goal.decreases-loop-rest
decreases-loop-rest l = length l.rest
