use Rattle.std.proofs.Common.{◌∙◌, sym, arith}
use Rattle.mw_chart.proofs.Adding.{inner_is}
use Rattle.mw_chart.proofs.Covered.{inner_far}
use Rattle.mw_grammar.proofs.listing.list_of.Goals as goal

pub returns-then-number-len : goal.returns-then-number-len
returns-then-number-len c =
    let lists = c.args.lists.now.items in
    let low = c.if-number-len.true in
    c.as_slice.ensures.value ∙ sym (inner_is lists c.args.number c.index.result.now (omega (arith, low, c.len.ensures)) c.index.ensures)

pub returns-else-number-len : goal.returns-else-number-len
returns-else-number-len c =
    let high = c.if-number-len.false in
    sym (inner_far c.args.lists.now.items c.args.number (omega (arith, high, c.len.ensures)))
