use Rattle.std.proofs.Common.{◌<◌, length, arith}
use Rattle.mw_chart.proofs.Lists.{get_item}
use Rattle.mw_chart.proofs.Ends.{vec_length}
use Rattle.mw_chart.proofs.Fulls.{full_more}
use Rattle.mw_chart.proofs.Covered.{fills_at, fills_nowhere}
use Rattle.mw_chart.proofs.completing.complete_at.Goals as goal

pub mark-requires-clause-full : goal.mark-requires-clause-full
mark-requires-clause-full c =
    full_more c.args.over.n c.args.agenda.now.full.items c.args.agenda.now.cells.items c.complete_by.new.cells.items c.in_ok-complete_by.ensures.ok.kept c.in_ok-complete_by.ensures.len c.requires.full

pub returns-in_ok-mark-clause-ready : goal.returns-in_ok-mark-clause-ready
returns-in_ok-mark-clause-ready c = record {
  short = c.requires.short;
  shape = c.requires.shape;
  indexed = c.requires.indexed;
  within = c.requires.within;
  count = rw c.in_ok-mark.ensures.cells c.in_ok-complete_by.ensures.len;
  full = c.in_ok-mark.ensures.full;
}

pub returns-in_ok-mark-clause-ok : goal.returns-in_ok-mark-clause-ok
returns-in_ok-mark-clause-ok c =
    let h = c.if-place-len.true in
    let n = vec_length c.args.over.row.now.constituents in
    let e = c.len.ensures in
    let low : c.args.place < length c.args.over.row.now.constituents.items = omega (arith, h, n, e) in
    rw c.in_ok-mark.ensures.cells
    (fills_at _ _ c.args.over.table.now c.args.over.row.now.constituents.items c.args.over.n c.args.over.kind c.args.over.below c.args.over.next c.args.over.tree.now c.args.place c.index-constituent.result.now
    (get_item c.args.over.row.now.constituents.items c.args.place c.index-constituent.result.now low c.index-constituent.ensures) c.in_ok-complete_by.ensures.ok)

pub returns-else-place-len-clause-ok : goal.returns-else-place-len-clause-ok
returns-else-place-len-clause-ok c =
    let h = c.if-place-len.false in
    let n = vec_length c.args.over.row.now.constituents in
    let e = c.len.ensures in
    fills_nowhere _ c.args.over.table.now c.args.over.row.now.constituents.items c.args.over.n c.args.over.kind c.args.over.below c.args.over.next c.args.over.tree.now c.args.place (omega (arith, h, n, e))
