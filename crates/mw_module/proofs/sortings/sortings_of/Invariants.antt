use Rattle.std.proofs.Common.{◌≡◌, ◌++◌, length}
use Rattle.mw_module.specs.Sortings.{seen_sortings, sortings_of}
use Rattle.mw_module.proofs.sortings.sortings_of.Given as goal

abbrev pub invariant-loop-rest : goal.invariant-loop-rest
invariant-loop-rest l = seen_sortings l.sortings.items ++ sortings_of l.kinds l.tokens l.rest ≡ sortings_of l.kinds l.tokens l.parts

abbrev pub decreases-loop-rest : goal.decreases-loop-rest
decreases-loop-rest l = length l.rest
