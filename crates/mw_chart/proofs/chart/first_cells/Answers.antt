use Rattle.std.proofs.Common.{◌≡◌, ◌∙◌, ◌+◌, ℕ, [], ap, inl, inr, refl, arith}
use Rattle.mw_chart.specs.Listed.{inner}
use Rattle.mw_chart.proofs.Lists.{get_some}
use Rattle.mw_chart.proofs.Turned.{within, first_cells}
use Rattle.mw_chart.proofs.Ends.{row_of}
use Rattle.mw_chart.proofs.chart.first_cells.Goals as goal
use Rattle.mw_chart.proofs.chart.first_cells.Goals.{then-stands+in_ok-group, else-stands}

pub group-requires-clause-within : goal.group-requires-clause-within
group-requires-clause-within c =
    let low = c.requires.below in
    let count = c.requires.count in
    let row = row_of c.args.table.now c.args.text.now (c.args.i + 1) (c.args.i + 1) c.args.rows.now.items c.index.result.now c.requires.rows (omega arith) (omega (arith, low, count)) c.index.ensures in
    let all = within c.args.table.now c.args.text.now (c.args.i + 1) c.index.result.now.constituents.items c.requires.table (omega (arith, low)) row.0 in
    λ j r got. let b = all j r got in (omega (arith, b.0), b.1)

pub returns : goal.returns
returns c =
    let low = c.requires.below in
    let count = c.requires.count in
    let none = c.new-cells.ensures.items in
    let len = c.in_ok-grow.ensures.exact (rw none (omega arith)) in
    let empty : (j : ℕ) → inner c.grow.new.lists.items j ≡ [] = λ j. c.in_ok-grow.ensures.same j ∙ ap (λ l. inner l j) none in
    let begun = c.in_ok-scan.ensures.len in
    elim c.if-stands.branch [
      | then-stands+in_ok-group w ↦
          let row = row_of c.args.table.now c.args.text.now (c.args.i + 1) (c.args.i + 1) c.args.rows.now.items w.index.result.now c.requires.rows (omega arith) (omega (arith, low, count)) w.index.ensures in
          let grouped = w.in_ok-group.ensures.len in
          rw w.cells-is (
            omega (arith, low, len, begun, grouped),
            first_cells c.args.table.now c.args.text.now c.args.i w.index.result.now.constituents.items c.grow.new.lists.items c.scan.new.cells.items w.group.new.cells.items empty c.in_ok-scan.ensures.ok
                (inl (w.if-stands.ensures.0 refl, w.in_ok-group.ensures.ok)) row.0,
          )
      | else-stands w ↦
          let there = get_some c.args.rows.now.items (c.args.i + 1) (omega (arith, low, count)) in
          rw w.cells-is (
            omega (arith, low, len, begun),
            first_cells c.args.table.now c.args.text.now c.args.i there.0.constituents.items c.grow.new.lists.items c.scan.new.cells.items c.scan.new.cells.items empty c.in_ok-scan.ensures.ok
                (inr (λ e. (let bad = w.if-stands.ensures.1 e in let h : ⊥ = (cc) in h), refl)) (c.requires.rows (c.args.i + 1) there.0 (omega arith) there.1).0,
          )
    ]
