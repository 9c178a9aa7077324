use Rattle.std.proofs.Common.{◌≡◌, ◌+◌, cond, length}
use Rattle.mw_logic.specs.Terms.{terms_of}
use Rattle.mw_matching.specs.Found.{is_single}
use Rattle.mw_matching.specs.Patterns.{number_ones}
use Rattle.mw_search.proofs.positions.Positions.has_two_ones.Given as goal

abbrev pub invariant-loop-rest : goal.invariant-loop-rest
invariant-loop-rest l =
    number_ones l.facts (is_single l.self.single.items) l.operator (terms_of l.terms)
    ≡ cond l.has_one 1 0 + number_ones l.facts (is_single l.self.single.items) l.operator (terms_of l.rest)

abbrev pub decreases-loop-rest : goal.decreases-loop-rest
decreases-loop-rest l = length l.rest
