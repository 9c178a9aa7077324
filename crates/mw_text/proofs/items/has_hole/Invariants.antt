use Rattle.std.proofs.Common.{◌≡◌, length}
use Rattle.mw_text.specs.Names.{has_hole, items_of}
use Rattle.mw_text.proofs.items.has_hole.Given as goal

abbrev pub invariant-loop-front : goal.invariant-loop-front
invariant-loop-front l = has_hole (items_of l.name) ≡ has_hole (items_of l.name-2)

abbrev pub decreases-loop-front : goal.decreases-loop-front
decreases-loop-front l = length l.name
