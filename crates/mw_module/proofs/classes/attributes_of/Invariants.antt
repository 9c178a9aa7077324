use Rattle.std.proofs.Common.{◌≡◌, ◌++◌, length}
use Rattle.mw_module.specs.Classes.{attributes_of}
use Rattle.mw_module.proofs.classes.attributes_of.Given as goal

abbrev pub invariant-loop-rest : goal.invariant-loop-rest
invariant-loop-rest l = l.attributes.items ++ attributes_of l.tokens l.rest ≡ attributes_of l.tokens l.parts

abbrev pub decreases-loop-rest : goal.decreases-loop-rest
decreases-loop-rest l = length l.rest
