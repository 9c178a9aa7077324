use Rattle.std.proofs.Common.{arith}
use Rattle.mw_chart.proofs.Turned.{within}
use Rattle.mw_chart.proofs.chart.row_at.Goals as goal

pub indexed-requires : goal.indexed-requires
indexed-requires c = λ j r got.
    let low = c.requires.below in
    let short = c.requires.short in
    let end = (within c.args.table.now c.args.text.now c.args.i c.in_ok-constituents.constituents.items c.requires.table (omega (arith, low)) c.in_ok-constituents.ensures j r got).1 in omega (arith, short, end)
