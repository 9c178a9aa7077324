use Rattle.mw_match.specs.Parts.{behind_with}
use Rattle.mw_match.specs.Hands.{ComesTo, steps_of}
use Rattle.mw_match.proofs.parts.Parts.next_place.Given as goal

abbrev pub invariant-loop-next : goal.invariant-loop-next
invariant-loop-next l = ComesTo l.self (behind_with l.self l.rest l.fn.place) (behind_with l.self l.rest l.at)

abbrev pub decreases-loop-next : goal.decreases-loop-next
decreases-loop-next l = steps_of (behind_with l.self l.rest l.at)
