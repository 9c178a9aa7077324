use Rattle.std.proofs.Common.{◌≡◌, ◌++◌, suc, length}
use Rattle.mw_logic.specs.Terms.{terms_of}
use Rattle.mw_arguments.specs.Places.{numbers_of}
use Rattle.mw_proof.proofs.places.in_order.Given as goal

abbrev pub invariant-loop-others : goal.invariant-loop-others
invariant-loop-others l = l.made.items ++ numbers_of (suc l.index) (terms_of l.rest) (terms_of l.others) ≡ numbers_of 1 (terms_of l.some) (terms_of l.args)

abbrev pub decreases-loop-others : goal.decreases-loop-others
decreases-loop-others l = length l.others
