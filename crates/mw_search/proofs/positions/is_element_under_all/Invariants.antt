use Rattle.std.proofs.Common.{◌≡◌, length}
use Rattle.mw_matching.specs.Found.{is_element_under_all}
use Rattle.mw_search.proofs.positions.is_element_under_all.Given as goal

abbrev pub invariant-loop-rest : goal.invariant-loop-rest
invariant-loop-rest l = is_element_under_all l.facts l.operators l.term ≡ is_element_under_all l.facts l.rest l.term

abbrev pub decreases-loop-rest : goal.decreases-loop-rest
decreases-loop-rest l = length l.rest
