use Rattle.std.proofs.Common.{◌≡◌, ◌++◌, length}
use Rattle.mw_module.specs.Conditions.{seen_fragments, fragments_of}
use Rattle.mw_module.proofs.conditions.fragments_of.Given as goal

abbrev pub invariant-loop-rest : goal.invariant-loop-rest
invariant-loop-rest l = seen_fragments l.fragments.items ++ fragments_of l.tokens l.rest ≡ fragments_of l.tokens l.parts

abbrev pub decreases-loop-rest : goal.decreases-loop-rest
decreases-loop-rest l = length l.rest
