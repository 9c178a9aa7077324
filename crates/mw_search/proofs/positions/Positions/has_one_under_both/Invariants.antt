use Rattle.std.proofs.Common.{◌≡◌, length}
use Rattle.mw_logic.specs.Terms.{terms_of}
use Rattle.mw_matching.specs.Found.{is_single}
use Rattle.mw_matching.specs.Patterns.{has_one_under_both}
use Rattle.mw_search.proofs.positions.Positions.has_one_under_both.Given as goal

abbrev pub invariant-loop-rest : goal.invariant-loop-rest
invariant-loop-rest l =
    has_one_under_both l.facts (is_single l.self.single.items) l.first l.second (terms_of l.terms)
    ≡ has_one_under_both l.facts (is_single l.self.single.items) l.first l.second (terms_of l.rest)

abbrev pub decreases-loop-rest : goal.decreases-loop-rest
decreases-loop-rest l = length l.rest
