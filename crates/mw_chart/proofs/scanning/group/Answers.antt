use Rattle.std.proofs.Common.{◌∙◌}
use Rattle.mw_chart.specs.Chart.{GroupsBy}
use Rattle.mw_chart.proofs.Lists.{get_item_of}
use Rattle.mw_chart.proofs.Adding.{among_more, among_all}
use Rattle.mw_chart.proofs.scanning.group.Goals as goal

pub loop-constituent-preserved : goal.loop-constituent-preserved
loop-constituent-preserved c = record {
  len = c.in_ok-group_by.ensures.len ∙ c.loop-constituent.invariant.len;
  adds = among_more _ _ _ _ _ c.constituent-item.result (λ r. GroupsBy c.args.table.now c.args.text.now r) (get_item_of _ _ _ _ c.deref-constituent-items.ensures.value c.loop-constituent-test.true c.constituent-item.is) c.loop-constituent.invariant.adds c.in_ok-group_by.ensures.ok;
}

pub returns-clause-ok : goal.returns-clause-ok
returns-clause-ok c = among_all _ _ _ c.loop-constituent.constituent-index (λ r. GroupsBy c.args.table.now c.args.text.now r) (let p = c.deref-constituent-items.ensures.value in let q = c.loop-constituent-test.false in rw p at q) c.loop-constituent.invariant.adds
