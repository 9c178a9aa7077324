use Rattle.std.proofs.Common.{◌≡◌, ◌++◌, suc, length}
use Rattle.mw_logic.specs.Terms.{terms_of}
use Rattle.mw_redex.proofs.Middles.{count_from}
use Rattle.mw_proof.proofs.places.neighbours.Given as goal

abbrev pub invariant-loop-rest : goal.invariant-loop-rest
invariant-loop-rest l = l.made.items ++ count_from (suc l.index) (terms_of l.rest) ≡ count_from (suc l.before) (terms_of l.some)

abbrev pub decreases-loop-rest : goal.decreases-loop-rest
decreases-loop-rest l = length l.rest
