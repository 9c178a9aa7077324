use Rattle.std.proofs.Common.{◌∙◌, ◌-◌, length, arith, refl}
use Rattle.mw_chart.proofs.Covered.{ready_again, within_ahead}
use Rattle.mw_chart.proofs.Turned.{within, turned_cells, turned_row}
use Rattle.mw_chart.proofs.chart.turn.Goals as goal

pub advance_cell-requires-clause-ready : goal.advance_cell-requires-clause-ready
advance_cell-requires-clause-ready c =
    let shape = c.requires.shape in record {
      short = c.requires.short;
      shape = omega (arith, shape);
      indexed = c.requires.indexed;
      within = within_ahead c.args.next.now.constituents.items (length c.args.text.now) c.args.at _ shape
          (within c.args.table.now c.args.text.now c.args.at c.args.next.now.constituents.items c.requires.table (omega (arith, shape)) c.requires.next);
      count = refl;
      full = c.requires.full;
    }

pub advance_cell-requires-2-clause-ready : goal.advance_cell-requires-2-clause-ready
advance_cell-requires-2-clause-ready c = ready_again _ _ _ _ c.in_ok-advance_cell.ensures.ready

pub returns-clause-len : goal.returns-clause-len
returns-clause-len c = c.in_ok-advance_cell-2.ensures.ready.count ∙ c.in_ok-advance_cell.ensures.ready.count

pub returns-clause-full : goal.returns-clause-full
returns-clause-full c = c.in_ok-advance_cell-2.ensures.ready.full

pub returns-clause-cells : goal.returns-clause-cells
returns-clause-cells c =
    turned_cells c.args.table.now c.args.text.now c.args.i c.args.at (c.args.at - 1) c.args.next.now.constituents.items c.args.cell.now.items c.in_ok-predicted.predicted.items _ _ _
    c.requires.table c.requires.begin (let p = c.requires.begin in omega (arith, p)) c.requires.next c.requires.cell c.in_ok-predicted.ensures
    c.in_ok-advance_cell.ensures.ok c.in_ok-advance_cell-2.ensures.ok (c.in_ok-advance_cell-2.ensures.ready.count ∙ c.in_ok-advance_cell.ensures.ready.count) c.requires.cells

pub returns-clause-constituents : goal.returns-clause-constituents
returns-clause-constituents c =
    turned_row c.args.table.now c.args.text.now c.args.i c.args.at (c.args.at - 1) c.args.cell.now.items _ _
    c.requires.table c.requires.begin (let p = c.requires.begin in omega (arith, p)) c.requires.cell c.in_ok-keep_cell.ensures c.requires.constituents
