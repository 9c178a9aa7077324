use Rattle.std.proofs.Common.{◌∙◌, ap, is_gt}
use Rattle.mw_frames.proofs.JobOrder.{test_before, test_behind}
use Rattle.mw_reduce.proofs.pairs.is_in_order.Goals as goal

pub returns-clause-yes : goal.returns-clause-yes
returns-clause-yes c = test_before c.args.term.now c.args.other.now c.is_gt.result (c.is_gt.ensures ∙ ap is_gt c.compare.ensures)

pub returns-clause-no : goal.returns-clause-no
returns-clause-no c = test_behind c.args.term.now c.args.other.now c.is_gt.result (c.is_gt.ensures ∙ ap is_gt c.compare.ensures)
