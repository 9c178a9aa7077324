use Rattle.mw_chart.proofs.Adding.{if_ok_more}
use Rattle.mw_chart.proofs.Lists.{get_item}
use Rattle.mw_chart.proofs.Started.{begins_all}
use Rattle.mw_chart.proofs.scanning.scan.Goals as goal

pub returns-clause-ok : goal.returns-clause-ok
returns-clause-ok c =
    if_ok_more c.scan_leaves.result _ _
    (λ x p. begins_all _ _ _ c.args.table.now c.args.text.now c.args.i c.index-text-i.result (get_item c.args.text.now c.args.i c.index-text-i.result c.requires.below c.index-text-i.is) c.in_ok-scan_productions.ensures.ok p)
    c.scan_leaves.ensures.ok
