use Rattle.std.proofs.Common.{◌≡◌, ◌∙◌, ◌-◌, ◌+◌, ℕ, List, length, [], ◌∷◌, sym, ap, subst, arith, length-append}
use Rattle.std.specs.Global.{Global}
use Rattle.std.specs.declared.vec.Vec.{Vec}
use Rattle.mw_chart.specs.Chart.{IsCells, IsRow}
use Rattle.mw_chart.specs.Row.{AreFull}
use Rattle.mw_chart.specs.declared.item.ChartItem.{ChartItem}
use Rattle.mw_chart.proofs.Ends.{vec_length, row_of, popped_cell, popped_cells, no_row}
use Rattle.mw_chart.proofs.Fulls.{full_front}
use Rattle.mw_chart.proofs.chart.constituents_at.Goals as goal

pub loop-cell-init : goal.loop-cell-init
loop-cell-init c =
    let first = c.in_ok-cells.ensures in
    let len = first.0 in
    let at : length c.args.text.now - length c.in_ok-cells.cells.items ≡ c.args.i = omega (arith, len) in
    let same : c.agenda_of-agenda.result.cells.items ≡ c.in_ok-cells.cells.items = ap (λ (v : Vec _ Global). v.items) c.agenda_of-agenda.ensures.cells in
    record {
      shape = rw same (omega (arith, len));
      cells = rw same (subst (λ (m : ℕ). IsCells c.args.table.now c.args.text.now c.args.i m c.in_ok-cells.cells.items) (sym at) first.1);
      full = c.agenda_of-agenda.ensures.full (length c.args.text.now);
      constituents = rw (same, c.new-constituents.ensures.items) (subst (λ (m : ℕ). IsRow c.args.table.now c.args.text.now c.args.i m ([])) (sym at) (no_row c.args.table.now c.args.text.now c.args.i c.requires.table));
    }

pub turn-requires-clause-next : goal.turn-requires-clause-next
turn-requires-clause-next c =
    let shape = c.loop-cell.invariant.shape in
    let count = c.requires.count in
    let len = ap length c.in-Some.ensures.items ∙ length-append c.pop.new.self.items (c.in-Some.cell ∷ []) in
    let is : c.len.result ≡ length c.pop.new.self.items = c.len.ensures ∙ vec_length c.pop.new.self in
    (row_of c.args.table.now c.args.text.now (c.args.i + 1) (length c.args.text.now - c.len.result) c.args.rows.now.items c.index.result.now c.requires.rows
    (omega (arith, shape, len, is)) (omega (arith, count)) c.index.ensures).0

pub turn-requires-clause-cell : goal.turn-requires-clause-cell
turn-requires-clause-cell c =
    let is : c.len.result ≡ length c.pop.new.self.items = c.len.ensures ∙ vec_length c.pop.new.self in
    popped_cell c.args.table.now c.args.text.now c.args.i (length c.args.text.now - c.len.result) c.loop-cell.agenda.cells.items c.pop.new.self.items c.in-Some.cell c.in-Some.ensures.items c.loop-cell.invariant.shape
    (omega (arith, is)) c.loop-cell.invariant.cells

pub turn-requires-clause-cells : goal.turn-requires-clause-cells
turn-requires-clause-cells c =
    let is : c.len.result ≡ length c.pop.new.self.items = c.len.ensures ∙ vec_length c.pop.new.self in
    popped_cells c.args.table.now c.args.text.now c.args.i (length c.args.text.now - c.len.result) c.loop-cell.agenda.cells.items c.pop.new.self.items c.in-Some.cell c.in-Some.ensures.items c.loop-cell.invariant.shape
    (omega (arith, is)) c.loop-cell.invariant.cells

pub turn-requires-clause-indexed : goal.turn-requires-clause-indexed
turn-requires-clause-indexed c =
    let shape = c.loop-cell.invariant.shape in
    let count = c.requires.count in
    let len = ap length c.in-Some.ensures.items ∙ length-append c.pop.new.self.items (c.in-Some.cell ∷ []) in
    let is : c.len.result ≡ length c.pop.new.self.items = c.len.ensures ∙ vec_length c.pop.new.self in
    (row_of c.args.table.now c.args.text.now (c.args.i + 1) (length c.args.text.now - c.len.result) c.args.rows.now.items c.index.result.now c.requires.rows
    (omega (arith, shape, len, is)) (omega (arith, count)) c.index.ensures).1

pub turn-requires-clause-full : goal.turn-requires-clause-full
turn-requires-clause-full c =
    full_front (length c.args.text.now) c.loop-cell.agenda.full.items c.pop.new.self.items c.in-Some.cell
    (subst (λ (l : List (Vec ChartItem Global)). AreFull (length c.args.text.now) c.loop-cell.agenda.full.items l) c.in-Some.ensures.items c.loop-cell.invariant.full)
