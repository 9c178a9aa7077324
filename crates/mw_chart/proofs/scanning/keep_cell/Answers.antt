use Rattle.mw_chart.specs.Chart.{KeepsItem}
use Rattle.mw_chart.proofs.Lists.{get_item_of}
use Rattle.mw_chart.proofs.Adding.{among_more, among_all}
use Rattle.mw_chart.proofs.scanning.keep_cell.Goals as goal

pub loop-item-preserved : goal.loop-item-preserved
loop-item-preserved c = among_more _ _ _ _ _ c.item-item.result (λ s. KeepsItem c.args.table.now c.args.at s) (get_item_of _ _ _ _ c.deref-item-items.ensures.value c.loop-item-test.true c.item-item.is) c.loop-item.invariant c.in_ok-keep_item.ensures

pub returns : goal.returns
returns c = among_all _ _ _ c.loop-item.item-index (λ s. KeepsItem c.args.table.now c.args.at s) (let p = c.deref-item-items.ensures.value in let q = c.loop-item-test.false in rw p at q) c.loop-item.invariant
