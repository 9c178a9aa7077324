use Rattle.std.proofs.Common.{◌≡◌, ◌↔◌, length}
use Rattle.mw_check.proofs.rows.are_same.Given as goal

abbrev pub invariant-loop-left : goal.invariant-loop-left
invariant-loop-left l = (l.first ≡ l.second) ↔ (l.left ≡ l.right)

abbrev pub decreases-loop-left : goal.decreases-loop-left
decreases-loop-left l = length l.left
