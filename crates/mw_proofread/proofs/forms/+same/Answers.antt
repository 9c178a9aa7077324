use Rattle.std.proofs.Common.{◌∙◌}
use Rattle.mw_proofread.proofs.Sameness.{same_end}
use Rattle.mw_proofread.proofs.forms.+same.Goals as goal

pub are_same-returns : goal.are_same-returns
are_same-returns t c = c.is_empty.ensures ∙ same_end c.loop-left.left.now c.loop-left.right.now c.in_default.len_below ∙ c.loop-left.invariant.left
