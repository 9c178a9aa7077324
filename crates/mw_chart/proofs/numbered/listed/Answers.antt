use Rattle.std.proofs.Common.{◌<◌, ◌≤◌, ◌∙◌, length, sym, arith}
use Rattle.mw_chart.proofs.Adding.{inner_is}
use Rattle.mw_chart.proofs.Fulls.{inner_past_all}
use Rattle.mw_chart.proofs.numbered.listed.Goals as goal

pub returns-then-number-len : goal.returns-then-number-len
returns-then-number-len g c =
    let low : c.args.number < length c.args.lists.now.items = omega (arith, c.if-number-len.true, c.len.ensures, c.args.lists.now.ok.0) in
    c.as_slice.ensures.value ∙ sym (inner_is c.args.lists.now.items c.args.number c.index.result.now low c.index.ensures)

pub returns-else-number-len : goal.returns-else-number-len
returns-else-number-len g c =
    let high : length c.args.lists.now.items ≤ c.args.number = omega (arith, c.if-number-len.false, c.len.ensures, c.args.lists.now.ok.0) in
    sym (inner_past_all c.args.lists.now.items c.args.number high)
