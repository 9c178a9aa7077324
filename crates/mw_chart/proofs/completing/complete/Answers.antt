use Rattle.mw_chart.proofs.Lists.{get_item_of}
use Rattle.mw_chart.proofs.Covered.{grows_same, grows_then, ready_again, ready_then, covers_nothing, covers_strip, fills_row}
use Rattle.mw_chart.proofs.completing.complete.Goals as goal

pub loop-strip-init : goal.loop-strip-init
loop-strip-init c = record {
  ready = c.requires;
  grows = grows_same _ _;
  covers = covers_nothing _ c.args.over.table.now c.args.over.row.now.constituents.items c.args.over.n c.args.over.kind c.args.over.below c.args.over.next c.args.over.tree.now c.args.over.row.now.strips.items;
}

pub complete_strip-requires : goal.complete_strip-requires
complete_strip-requires c = ready_again _ _ _ _ c.loop-strip.invariant.ready

pub loop-strip-preserved : goal.loop-strip-preserved
loop-strip-preserved c = record {
  ready = ready_then _ _ _ _ _ c.loop-strip.invariant.ready c.in_ok-complete_strip.ensures.ready;
  grows = grows_then _ _ _ _ c.loop-strip.invariant.grows c.in_ok-complete_strip.ensures.grows;
  covers = covers_strip _ _ c.args.over.table.now c.args.over.row.now.constituents.items c.args.over.n c.args.over.kind c.args.over.below c.args.over.next c.args.over.tree.now c.args.over.row.now.strips.items c.loop-strip.strip-index c.strip-item.result
      (get_item_of _ _ _ _ c.deref-strip-items.ensures.value c.loop-strip-test.true c.strip-item.is) c.in_ok-complete_strip.ensures.grows.kept c.loop-strip.invariant.covers c.in_ok-complete_strip.ensures.covers;
}

pub returns-clause-ok : goal.returns-clause-ok
returns-clause-ok c =
    fills_row _ _ c.args.over.table.now c.args.over.row.now c.args.over.n c.args.over.kind c.args.over.below c.args.over.next c.args.over.tree.now c.loop-strip.strip-index c.requires.indexed
    (let p = c.deref-strip-items.ensures.value in let q = c.loop-strip-test.false in rw p at q) c.loop-strip.invariant.grows c.loop-strip.invariant.covers
