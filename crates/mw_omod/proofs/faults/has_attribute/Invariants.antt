use Rattle.std.proofs.Common.{◌≡◌, length}
use Rattle.mw_omod.specs.Completion.{has_attribute}
use Rattle.mw_omod.specs.Seen.{seen_attributes}
use Rattle.mw_omod.proofs.faults.has_attribute.Given as goal

abbrev pub invariant-loop-rest : goal.invariant-loop-rest
invariant-loop-rest l = has_attribute (seen_attributes l.rest) l.operator ≡ has_attribute (seen_attributes l.fn.attributes) l.operator

abbrev pub decreases-loop-rest : goal.decreases-loop-rest
decreases-loop-rest l = length l.rest
