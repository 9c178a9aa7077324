use Rattle.std.proofs.Common.{◌≡◌, length}
use Rattle.mw_module.specs.Attributes.{same_texts}
use Rattle.mw_module.proofs.attribute.same_marks.Given as goal

abbrev pub invariant-loop-left : goal.invariant-loop-left
invariant-loop-left l = same_texts l.left l.right ≡ same_texts l.marks l.others

abbrev pub decreases-loop-left : goal.decreases-loop-left
decreases-loop-left l = length l.left
