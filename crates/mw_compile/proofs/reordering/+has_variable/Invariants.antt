use Rattle.std.proofs.Common.{◌≤◌, ◌+◌, length}
use Rattle.mw_logic.specs.NormalForm.{height, highest}
use Rattle.mw_logic.specs.Terms.{terms_of}
use Rattle.mw_compile.proofs.reordering.+has_variable.Given as goal

abbrev pub decreases-has_variable : goal.decreases-has_variable
decreases-has_variable l = height l.term.now

abbrev pub invariant-loop-rest : goal.invariant-loop-rest
invariant-loop-rest l = highest (terms_of l.rest) + 1 ≤ height l.term

abbrev pub decreases-loop-rest : goal.decreases-loop-rest
decreases-loop-rest l = length l.rest
