use Rattle.std.proofs.Common.{◌≡◌, length, map}
use Rattle.mw_term.specs.Statements.{fragment_of}
use Rattle.mw_least.specs.Conditions.{met_fragments}
use Rattle.mw_omod.proofs.mentions.meet_fragments.Given as goal

abbrev pub invariant-loop-rest : goal.invariant-loop-rest
invariant-loop-rest l = met_fragments l.variables (map fragment_of l.rest) ≡ met_fragments l.fn.variables (map fragment_of l.fragments)

abbrev pub decreases-loop-rest : goal.decreases-loop-rest
decreases-loop-rest l = length l.rest
