use Rattle.std.proofs.Common.{refl}
use Rattle.mw_chart.proofs.Lists.{get_item}
use Rattle.mw_chart.proofs.Rows.{index_next, index_done}
use Rattle.mw_chart.proofs.row.indexed.Goals as goal

pub loop-k-preserved : goal.loop-k-preserved
loop-k-preserved c = record {
  listed = index_next c.deref-constituent-items.result.now c.loop-k.k c.constituent-item.result c.loop-k.places.items c.join.new.lists.items c.loop-k.strips.items c.list_end.new.strips.items
      (get_item c.deref-constituent-items.result.now c.loop-k.k c.constituent-item.result c.loop-k-test.true c.constituent-item.is)
      c.in_ok-join.ensures.kept (c.in_ok-join.ensures.put _ refl) c.in_ok-list_end.ensures.kept c.in_ok-list_end.ensures.listed c.loop-k.invariant.listed;
}

pub returns-clause-indexed : goal.returns-clause-indexed
returns-clause-indexed c =
    index_done c.args.constituents.items c.deref-constituent-items.result.now c.loop-k.k c.loop-k.places.items c.loop-k.strips.items c.deref-constituent-items.ensures.value c.loop-k-test.false c.loop-k.invariant.listed
