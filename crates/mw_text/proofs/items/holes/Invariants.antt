use Rattle.std.proofs.Common.{◌≡◌, ◌+◌, ◌≤◌, length}
use Rattle.mw_text.specs.Names.{items_of, count_holes}
use Rattle.mw_text.proofs.items.holes.Given as goal

abbrev pub invariant-loop-front : goal.invariant-loop-front
invariant-loop-front l = (l.holes + count_holes (items_of l.name) ≡ count_holes (items_of l.name-2)) × (l.holes + length l.name ≤ length l.name-2)

abbrev pub decreases-loop-front : goal.decreases-loop-front
decreases-loop-front l = length l.name
