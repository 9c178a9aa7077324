use Rattle.std.proofs.Common.{◌+◌, ◌*◌, max}
use Rattle.mw_logic.specs.NormalForm.{height, highest}
use Rattle.mw_logic.specs.Terms.{terms_of}
use Rattle.mw_search.proofs.lookahead.+clashes.Given as goal

abbrev pub decreases-clashes : goal.decreases-clashes
decreases-clashes l = 4 * height l.pattern.now

abbrev pub decreases-clash_under : goal.decreases-clash_under
decreases-clash_under l = 4 * highest (terms_of l.patterns.now) + 3

abbrev pub decreases-some_clash : goal.decreases-some_clash
decreases-some_clash l = 4 * highest (terms_of l.patterns.now) + 1

abbrev pub invariant-some_clash-loop-i : goal.invariant-some_clash-loop-i
invariant-some_clash-loop-i l = Unit {0}

abbrev pub decreases-clash_swapped : goal.decreases-clash_swapped
decreases-clash_swapped l = 4 * highest (terms_of l.patterns.now) + 3

abbrev pub decreases-orders_clash : goal.decreases-orders_clash
decreases-orders_clash l = 4 * highest (terms_of l.patterns.now) + 2

abbrev pub decreases-pair_clashes : goal.decreases-pair_clashes
decreases-pair_clashes l = 4 * max (height l.p.now) (height l.q.now) + 1
