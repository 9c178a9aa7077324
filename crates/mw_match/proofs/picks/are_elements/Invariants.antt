use Rattle.std.proofs.Common.{drop}
use Rattle.mw_logic.specs.Terms.{terms_of}
use Rattle.mw_match.specs.Choices.{ArePicked}
use Rattle.mw_match.proofs.picks.are_elements.Given as goal

abbrev pub invariant-loop-i : goal.invariant-loop-i
invariant-loop-i l =
    ArePicked l.facts l.positions.single.items l.operator (terms_of (drop l.i l.patterns)) → ArePicked l.facts l.positions.single.items l.operator (terms_of l.patterns)
