use Rattle.std.proofs.Common.{arith}
use Rattle.mw_chart.proofs.Adding.{if_ok_more}
use Rattle.mw_chart.proofs.Ends.{row_of}
use Rattle.mw_chart.proofs.Answers.{are_spelled}
use Rattle.mw_chart.proofs.reading.readings.Goals as goal

pub returns : goal.returns
returns c =
    let count = c.in_ok-rows.ensures.count in
    let row = row_of c.args.table.now c.args.text.now 0 0 c.in_ok-rows.rows.items c.index.result.now c.in_ok-rows.ensures.rows (omega arith) (omega (arith, count)) c.index.ensures in
    if_ok_more c.list_all.result _ _ (λ x p. are_spelled c.args.table.now c.args.text.now c.index.result.now.constituents.items x.items row.0 p) c.list_all.ensures
