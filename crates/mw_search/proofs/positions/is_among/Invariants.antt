use Rattle.std.proofs.Common.{◌≡◌, length}
use Rattle.mw_matching.specs.Found.{is_among}
use Rattle.mw_search.proofs.positions.is_among.Given as goal

abbrev pub invariant-loop-rest : goal.invariant-loop-rest
invariant-loop-rest l = is_among l.operator l.operators ≡ is_among l.operator l.rest

abbrev pub decreases-loop-rest : goal.decreases-loop-rest
decreases-loop-rest l = length l.rest
