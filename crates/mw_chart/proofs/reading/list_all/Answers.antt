use Rattle.mw_chart.specs.Readings.{ListedBy}
use Rattle.mw_chart.proofs.Lists.{get_item_of}
use Rattle.mw_chart.proofs.Adding.{among_more, among_all}
use Rattle.mw_chart.proofs.reading.list_all.Goals as goal

pub loop-constituent-preserved : goal.loop-constituent-preserved
loop-constituent-preserved c = among_more _ _ _ _ _ c.constituent-item.result (λ r. ListedBy c.args.table.now c.args.n r) (get_item_of _ _ _ _ c.deref-constituent-items.ensures.value c.loop-constituent-test.true c.constituent-item.is) c.loop-constituent.invariant c.in_ok-list.ensures

pub returns : goal.returns
returns c = among_all _ _ _ c.loop-constituent.constituent-index (λ r. ListedBy c.args.table.now c.args.n r) (let p = c.deref-constituent-items.ensures.value in let q = c.loop-constituent-test.false in rw p at q) c.loop-constituent.invariant
