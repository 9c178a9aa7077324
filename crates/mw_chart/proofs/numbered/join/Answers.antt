use Rattle.std.proofs.Common.{◌<◌, length, arith}
use Rattle.mw_chart.proofs.Listings.{joins_set}
use Rattle.mw_chart.proofs.numbered.join.Goals as goal

pub returns : goal.returns
returns g c =
    let low : c.args.number < length c.grow.new.lists.items = omega (arith, c.in_ok-grow.ensures.long) in
    joins_set c.args.lists.now.items c.grow.new.lists.items c.args.number c.args.element c.index_mut.result.now c.push.new.self c.in_ok-grow.ensures.same low c.index_mut.ensures.value c.in_ok-push.ensures.items
