use Rattle.std.proofs.Common.{◌≡◌, ◌↔◌, length}
use Rattle.mw_alike.proofs.lists.all_same.Given as goal

abbrev pub invariant-loop-rest : goal.invariant-loop-rest
invariant-loop-rest g l = (l.ones ≡ l.others) ↔ (l.rest ≡ l.left)

abbrev pub decreases-loop-rest : goal.decreases-loop-rest
decreases-loop-rest g l = length l.rest
