use Rattle.mw_match.specs.Hands.{searches_of, steps_of}
use Rattle.mw_match.proofs.Hands.{IsReached}
use Rattle.mw_match.proofs.hand.Hand.next.Given as goal

abbrev pub invariant-loop-self : goal.invariant-loop-self
invariant-loop-self l = IsReached l.parts l.initial.self l.self

abbrev pub decreases-loop-self : goal.decreases-loop-self
decreases-loop-self l = steps_of (searches_of l.parts l.self)
