use Rattle.std.proofs.Common.{◌≡◌, length}
use Rattle.mw_text.specs.Names.{items_of}
use Rattle.mw_module.specs.Attributes.{same_items}
use Rattle.mw_module.proofs.attribute.same_name.Given as goal

abbrev pub invariant-loop-item : goal.invariant-loop-item
invariant-loop-item l = same_items (items_of l.left) (items_of l.right) ≡ same_items (items_of l.text) (items_of l.other)

abbrev pub decreases-loop-item : goal.decreases-loop-item
decreases-loop-item l = length l.left
