use Rattle.mw_chart.proofs.Answers.{list_put, lists_push}
use Rattle.mw_chart.proofs.reading.list.Goals as goal

pub returns-in_ok-push : goal.returns-in_ok-push
returns-in_ok-push c =
    rw c.in_ok-push.ensures.items
    (list_put _ _ c.args.table.now c.args.n c.args.constituent.now c.in-Some.kind c.in-Some._precedence c.in_ok-tree.tree
    c.in-Some.ensures.some c.if-constituent-n.true c.if-kind-table.true c.in_ok-tree.ensures
    (lists_push c.args.listed.now.items c.in-Some.kind c.in_ok-tree.tree))
