use Rattle.std.proofs.Common.{◌≡◌, ◌∙◌, ◌-◌, ◌+◌, ℕ, length, subst, refl, arith}
use Rattle.std.proofs.Math.ListN.{length-set}
use Rattle.mw_chart.specs.Row.{AreRows}
use Rattle.mw_chart.proofs.Ends.{rows_end, rows_more}
use Rattle.mw_chart.proofs.chart.chart_of.Goals as goal

pub loop-i-init : goal.loop-i-init
loop-i-init c = record {
  count = c.in_ok-rows.ensures.0;
  low = omega arith;
  rows = rows_end c.args.table.now c.args.text.now (length c.args.text.now + 1) c.in_ok-rows.rows.items c.requires.table refl c.in_ok-rows.ensures;
}

pub loop-i-preserved : goal.loop-i-preserved
loop-i-preserved c =
    let some = c.loop-i-test.true in
    let low = c.loop-i.invariant.low in
    let count = c.loop-i.invariant.count in
    let same : c.loop-i.i ≡ c.loop-i.i - 1 + 1 = omega (arith, some) in
    record {
      count = length-set c.loop-i.rows.items (c.loop-i.i - 1) c.in_ok-row.row ∙ count;
      low = omega (arith, low);
      rows = rows_more c.args.table.now c.args.text.now (c.loop-i.i - 1) c.loop-i.rows.items c.in_ok-row.row (omega (arith, some, low, count))
          (subst (λ (m : ℕ). AreRows c.args.table.now c.args.text.now m c.loop-i.rows.items) same c.loop-i.invariant.rows) c.in_ok-row.ensures.row c.in_ok-row.ensures.indexed;
    }

pub row_at-requires : goal.row_at-requires
row_at-requires c =
    let some = c.loop-i-test.true in
    let low = c.loop-i.invariant.low in
    let same : c.loop-i.i ≡ c.loop-i.i - 1 + 1 = omega (arith, some) in
    record {
      table = c.requires.table;
      short = c.requires.short;
      below = omega (arith, some, low);
      count = c.loop-i.invariant.count;
      rows = subst (λ (m : ℕ). AreRows c.args.table.now c.args.text.now m c.loop-i.rows.items) same c.loop-i.invariant.rows;
    }

pub returns-clause-rows : goal.returns-clause-rows
returns-clause-rows c =
    let end = c.loop-i-test.false in
    let same : c.loop-i.i ≡ 0 = omega (arith, end) in
    subst (λ (m : ℕ). AreRows c.args.table.now c.args.text.now m c.loop-i.rows.items) same c.loop-i.invariant.rows
