use Rattle.mw_chart.proofs.Covered.{grows_same, grows_then, ready_again, ready_then, covers_bit, done_none, done_all}
use Rattle.mw_chart.proofs.completing.complete_word.Goals as goal

pub loop-left-init : goal.loop-left-init
loop-left-init c = record {
  ready = c.requires.ready;
  grows = grows_same _ _;
  covers = done_none _ c.args.over.table.now c.args.over.row.now.constituents.items c.args.over.n c.args.over.kind c.args.over.below c.args.over.next c.args.over.tree.now c.args.index c.args.word;
}

pub complete_end-requires : goal.complete_end-requires
complete_end-requires c = ready_again _ _ _ _ c.loop-left.invariant.ready

pub loop-left-preserved : goal.loop-left-preserved
loop-left-preserved c = record {
  ready = ready_then _ _ _ _ _ c.loop-left.invariant.ready c.in_ok-complete_end.ensures.ready;
  grows = grows_then _ _ _ _ c.loop-left.invariant.grows c.in_ok-complete_end.ensures.grows;
  covers = covers_bit _ _ c.args.over.table.now c.args.over.row.now.constituents.items c.args.over.n c.args.over.kind c.args.over.below c.args.over.next c.args.over.tree.now c.args.index c.args.word c.loop-left.left _ _
      c.without_lowest-left.ensures.rest c.in_ok-complete_end.ensures.grows.kept c.loop-left.invariant.covers c.in_ok-complete_end.ensures.covers;
}

pub returns-clause-covers : goal.returns-clause-covers
returns-clause-covers c = done_all _ c.args.over.table.now c.args.over.row.now.constituents.items c.args.over.n c.args.over.kind c.args.over.below c.args.over.next c.args.over.tree.now c.args.index c.args.word c.loop-left.left c.loop-left-test.false c.loop-left.invariant.covers
