use Rattle.std.proofs.Common.{◌≡◌, ◌++◌, true, length}
use Rattle.mw_block.specs.Notes as notes
use Rattle.mw_block.proofs.noting.write_starred.Given as goal

abbrev pub invariant-loop-rest : goal.invariant-loop-rest
invariant-loop-rest l = l.lines.items ++ notes.starred l.start l.rest ≡ l.fn.lines.items ++ notes.starred true l.text

abbrev pub decreases-loop-rest : goal.decreases-loop-rest
decreases-loop-rest l = length l.rest
