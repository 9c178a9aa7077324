use Rattle.std.proofs.Common.{List}
use Rattle.mw_index.specs.Choices.{Tried}
use Rattle.mw_redexes.specs.Redexes.{AreAsked}
use Rattle.mw_rule.specs.Finding.{AreTriedAmong}
use Rattle.mw_rule.proofs.finding.find.Given as goal

-- what was answered is among the failures
abbrev pub invariant-loop-rounds : goal.invariant-loop-rounds
invariant-loop-rounds l = (tried : List Tried) × AreTriedAmong l.context l.failures tried × AreAsked l.context l.rules l.spots.items tried l.redexes

abbrev pub decreases-loop-rounds : goal.decreases-loop-rounds
decreases-loop-rounds l = l.rounds
