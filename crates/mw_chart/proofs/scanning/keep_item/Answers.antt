use Rattle.mw_chart.proofs.Started.{row_push, keeps_item, keeps_none}
use Rattle.mw_chart.proofs.scanning.keep_item.Goals as goal

pub returns-in_ok-push-in-Some : goal.returns-in_ok-push-in-Some
returns-in_ok-push-in-Some c =
    rw c.in_ok-push-in-Some.ensures.items
    (keeps_item _ _ c.args.table.now c.args.at c.in-Some._whole.0 c.in-Some._whole.1 c.args.item.now c.in-Some.ensures.some
    (row_push c.args.row.now.items c.args.at c.args.item.now.state c.in_ok-tree-in-Some.tree c.args.item.now.tree c.in_ok-tree-in-Some.ensures))

pub returns-in-None : goal.returns-in-None
returns-in-None c = keeps_none _ c.args.table.now c.args.at c.args.item.now c.in-None.ensures.none
