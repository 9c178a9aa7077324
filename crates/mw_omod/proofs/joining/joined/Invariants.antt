use Rattle.std.proofs.Common.{◌≡◌, length, map}
use Rattle.mw_term.specs.Raws.{raw_term}
use Rattle.mw_omod.specs.Objects.{joined_before}
use Rattle.mw_omod.proofs.joining.joined.Given as goal

abbrev pub invariant-loop-part : goal.invariant-loop-part
invariant-loop-part l = joined_before l.operator (map raw_term l.parts.items) (raw_term l.joined) ≡ joined_before l.operator (map raw_term l.fn.parts.items) (raw_term l.fn.last)

abbrev pub decreases-loop-part : goal.decreases-loop-part
decreases-loop-part l = length l.parts.items
