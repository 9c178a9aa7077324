use Rattle.std.proofs.Common.{map, length}
use Rattle.mw_term.specs.Statements.{fragment_of}
use Rattle.mw_index.proofs.Turns.{IsTurn}
use Rattle.mw_index.proofs.conditions.tests_of.Given as goal

abbrev pub invariant-loop-rest : goal.invariant-loop-rest
invariant-loop-rest l = IsTurn l.context.signature l.all l.fn.bound (map fragment_of l.fragments) (map fragment_of l.rest) l.bound l.tests.items

abbrev pub decreases-loop-rest : goal.decreases-loop-rest
decreases-loop-rest l = length l.rest
