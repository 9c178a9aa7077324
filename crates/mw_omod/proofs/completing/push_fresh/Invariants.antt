use Rattle.std.proofs.Common.{◌≡◌, ◌++◌, length, map}
use Rattle.mw_term.specs.Raws.{raw_term}
use Rattle.mw_omod.specs.Objects.{attribute_term, fresh}
use Rattle.mw_omod.specs.Seen.{seen_attributes}
use Rattle.mw_omod.proofs.completing.push_fresh.Given as goal

abbrev pub invariant-loop-rest : goal.invariant-loop-rest
invariant-loop-rest l = map raw_term l.found.items ++ map attribute_term (fresh l.number (seen_attributes l.rest)) ≡ map raw_term l.fn.found.items ++ map attribute_term (fresh l.number (seen_attributes l.fn.attributes))

abbrev pub decreases-loop-rest : goal.decreases-loop-rest
decreases-loop-rest l = length l.rest
