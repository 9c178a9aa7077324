use Rattle.std.proofs.Common.{◌≡◌, ◌++◌, length}
use Rattle.mw_module.specs.Reading.{lists_of}
use Rattle.mw_module.specs.Words.{seen_lists}
use Rattle.mw_module.proofs.machine.lists_of.Given as goal

abbrev pub invariant-loop-rest : goal.invariant-loop-rest
invariant-loop-rest l = seen_lists l.lists.items ++ lists_of l.tokens l.rest ≡ lists_of l.tokens l.parts

abbrev pub decreases-loop-rest : goal.decreases-loop-rest
decreases-loop-rest l = length l.rest
