use Rattle.std.proofs.Common.{◌≡◌, length}
use Rattle.mw_omod.specs.Completion.{repeats}
use Rattle.mw_omod.specs.Seen.{seen_attributes}
use Rattle.mw_omod.proofs.faults.repeats.Given as goal

abbrev pub invariant-loop-rest : goal.invariant-loop-rest
invariant-loop-rest l = repeats (seen_attributes l.rest) ≡ repeats (seen_attributes l.fn.attributes)

abbrev pub decreases-loop-rest : goal.decreases-loop-rest
decreases-loop-rest l = length l.rest
