use Rattle.std.proofs.Common.{◌≡◌, length}
use Rattle.mw_text.specs.Names.{items_of}
use Rattle.mw_print.specs.Chains.{after_hole}
use Rattle.mw_print.proofs.printing.behind_hole.Given as goal

abbrev pub invariant-loop-item : goal.invariant-loop-item
invariant-loop-item l = after_hole (items_of l.rest) ≡ after_hole (items_of l.name)

abbrev pub decreases-loop-item : goal.decreases-loop-item
decreases-loop-item l = length l.rest
