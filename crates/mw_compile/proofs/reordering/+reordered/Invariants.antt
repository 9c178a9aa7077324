use Rattle.std.proofs.Common.{ℕ, ◌+◌, ◌*◌}
use Rattle.mw_logic.specs.Terms.{terms_of}
use Rattle.mw_logic.specs.NormalForm.{height, highest}
use Rattle.mw_compile.specs.Groups.{pointed}
use Rattle.mw_compile.proofs.Orders.{AreReorderedUpTo}
use Rattle.mw_compile.proofs.reordering.+reordered.Given as goal

abbrev pub decreases-reordered : goal.decreases-reordered
decreases-reordered l = 2 * height l.term.now

abbrev pub decreases-all_reordered : goal.decreases-all_reordered
decreases-all_reordered l = 2 * highest (terms_of (pointed l.terms.now)) + 1

abbrev pub invariant-all_reordered-loop-term : goal.invariant-all_reordered-loop-term
invariant-all_reordered-loop-term l = (f : ℕ) → AreReorderedUpTo l.singles f l.term-index (pointed l.terms) l.made.items
