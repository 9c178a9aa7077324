use Rattle.mw_chart.proofs.Cells.{item_read, not_both, two_items}
use Rattle.mw_chart.proofs.cell.is_full.Goals as goal

pub returns-in-Some-item_from : goal.returns-in-Some-item_from
returns-in-Some-item_from c =
    let one = c.in-Some.ensures in
    let other = c.in-Some-item_from.ensures in
    let x = item_read c.args.cell.now.items c.in-Some.one one.0 c.index.result.now c.args.state one.1 one.2 c.index.ensures in
    let y = item_read c.args.cell.now.items c.in-Some-item_from.other other.0 c.index-in-Some-item_from.result.now c.args.state other.1 other.2 c.index-in-Some-item_from.ensures in
    λ e. two_items c.args.cell.now.items c.in-Some.one c.in-Some-item_from.other c.index.result.now c.index-in-Some-item_from.result.now c.args.state x.0 x.1 y.0 y.1 (λ same. not_both c.same.result e (c.same.ensures.1 same))
