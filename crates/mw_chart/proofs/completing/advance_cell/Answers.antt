use Rattle.mw_chart.specs.Chart.{AdvancesItem}
use Rattle.mw_chart.proofs.Lists.{get_item_of}
use Rattle.mw_chart.proofs.Adding.{among_more, among_all}
use Rattle.mw_chart.proofs.Covered.{ready_again, ready_then}
use Rattle.mw_chart.proofs.Filling.{advances_item}
use Rattle.mw_chart.proofs.completing.advance_cell.Goals as goal

pub advance-requires-clause-ready : goal.advance-requires-clause-ready
advance-requires-clause-ready c = ready_again _ _ _ _ c.loop-item.invariant.ready

pub loop-item-preserved : goal.loop-item-preserved
loop-item-preserved c = record {
  ready = ready_then _ _ _ _ _ c.loop-item.invariant.ready c.in_ok-advance.ensures.ready;
  adds = among_more _ _ _ _ _ c.item-item.result (λ s. AdvancesItem c.args.table.now c.args.text.now c.args.row.now.constituents.items c.args.at s) (get_item_of _ _ _ _ c.deref-item-items.ensures.value c.loop-item-test.true c.item-item.is) c.loop-item.invariant.adds
      (advances_item _ _ c.args.table.now c.args.text.now c.args.row.now.constituents.items c.args.at c.item-item.result c.in_ok-advance.ensures.ok);
}

pub returns-clause-ok : goal.returns-clause-ok
returns-clause-ok c = among_all _ _ _ c.loop-item.item-index (λ s. AdvancesItem c.args.table.now c.args.text.now c.args.row.now.constituents.items c.args.at s) (let p = c.deref-item-items.ensures.value in let q = c.loop-item-test.false in rw p at q) c.loop-item.invariant.adds
