use Rattle.mw_chart.specs.Row.{CompletesAt}
use Rattle.mw_chart.proofs.Lists.{get_is}
use Rattle.mw_chart.proofs.Adding.{among_more, among_all}
use Rattle.mw_chart.proofs.Covered.{ready_again, ready_then, grows_listed, covers_listed}
use Rattle.mw_chart.proofs.completing.complete_end.Goals as goal

pub complete_at-requires : goal.complete_at-requires
complete_at-requires c = ready_again _ _ _ _ c.loop-place.invariant.ready

pub loop-place-preserved : goal.loop-place-preserved
loop-place-preserved c = record {
  ready = ready_then _ _ _ _ _ c.loop-place.invariant.ready c.in_ok-complete_at.ensures.ready;
  adds = among_more _ _ _ _ _ _ (λ p. CompletesAt c.args.over.table.now c.args.over.row.now.constituents.items c.args.over.n c.args.over.kind c.args.over.below c.args.over.next c.args.over.tree.now p) (get_is _ c.loop-place.place-index 0 c.loop-place-test.true) c.loop-place.invariant.adds c.in_ok-complete_at.ensures.ok;
}

pub returns-clause-grows : goal.returns-clause-grows
returns-clause-grows c =
    grows_listed _ _ c.args.over.table.now c.args.over.row.now.constituents.items c.listed-place-items.result.now c.args.over.n c.args.over.kind c.args.over.below c.args.over.next c.args.over.tree.now
    (among_all _ _ c.listed-place-items.result.now c.loop-place.place-index (λ p. CompletesAt c.args.over.table.now c.args.over.row.now.constituents.items c.args.over.n c.args.over.kind c.args.over.below c.args.over.next c.args.over.tree.now p) c.loop-place-test.false c.loop-place.invariant.adds)

pub returns-clause-covers : goal.returns-clause-covers
returns-clause-covers c =
    covers_listed _ _ c.args.over.table.now c.args.over.row.now c.listed-place-items.result.now c.args.end c.args.over.n c.args.over.kind c.args.over.below c.args.over.next c.args.over.tree.now c.requires.indexed c.listed-place-items.ensures
    (among_all _ _ c.listed-place-items.result.now c.loop-place.place-index (λ p. CompletesAt c.args.over.table.now c.args.over.row.now.constituents.items c.args.over.n c.args.over.kind c.args.over.below c.args.over.next c.args.over.tree.now p) c.loop-place-test.false c.loop-place.invariant.adds)
