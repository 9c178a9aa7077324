use Rattle.std.proofs.Common.{◌≡◌, ◌++◌, length}
use Rattle.mw_omod.specs.Completion.{lacking}
use Rattle.mw_omod.specs.Seen.{seen_attributes}
use Rattle.mw_omod.proofs.completing.lacking.Given as goal

abbrev pub invariant-loop-rest : goal.invariant-loop-rest
invariant-loop-rest l = seen_attributes l.found.items ++ lacking (seen_attributes l.first) (seen_attributes l.rest) ≡ lacking (seen_attributes l.first) (seen_attributes l.fn.others)

abbrev pub decreases-loop-rest : goal.decreases-loop-rest
decreases-loop-rest l = length l.rest
