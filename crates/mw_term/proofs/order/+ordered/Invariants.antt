use Rattle.std.proofs.Common.{◌≡◌, ◌*◌, ◌+◌, drop, min, length}
use Rattle.mw_logic.specs.NormalForm.{height, highest}
use Rattle.mw_logic.specs.Terms.{terms_of}
use Rattle.mw_logic.specs.TermOrder.{order_lists}
use Rattle.mw_term.proofs.order.+ordered.Given as goal

abbrev pub decreases-ordered : goal.decreases-ordered
decreases-ordered l = 3 * height l.a.now

abbrev pub decreases-applied_ordered : goal.decreases-applied_ordered
decreases-applied_ordered l = 3 * highest (terms_of l.a.now) + 2

abbrev pub decreases-all_ordered : goal.decreases-all_ordered
decreases-all_ordered l = 3 * highest (terms_of l.a.now) + 1

abbrev pub invariant-all_ordered-loop-i : goal.invariant-all_ordered-loop-i
invariant-all_ordered-loop-i l =
    (l.n ≡ min (length l.a) (length l.b)) × (order_lists (terms_of (drop l.i l.a)) (terms_of (drop l.i l.b)) ≡ order_lists (terms_of l.a) (terms_of l.b))
