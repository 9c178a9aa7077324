use Rattle.mw_chart.proofs.Adding.{if_ok_more}
use Rattle.mw_chart.proofs.Started.{opens_item}
use Rattle.mw_chart.proofs.predicting.predict_item.Goals as goal

pub returns-in-Some : goal.returns-in-Some
returns-in-Some c =
    if_ok_more c.predict_by.result _ _
    (λ x p. opens_item _ _ c.args.table.now c.args.text.now c.args.at c.in-Some.kind c.in-Some.precedence c.args.item.now c.in-Some.ensures.some p)
    c.predict_by.ensures
