use Rattle.mw_match.proofs.NextPicks.{AreReached, turns_left}
use Rattle.mw_match.proofs.levels.Levels.next.Given as goal

abbrev pub invariant-loop-self : goal.invariant-loop-self
invariant-loop-self l = AreReached l.initial.self l.self

abbrev pub decreases-loop-self : goal.decreases-loop-self
decreases-loop-self l = turns_left l.self
