use Rattle.mw_solving.specs.Reordered.{then}
use Rattle.mw_compile.proofs.Orders.{grouped_none, grouped_more, grouped_end}
use Rattle.mw_compile.proofs.reordering.grouped.Goals as goal

pub loop-arg-init : goal.loop-arg-init
loop-arg-init c = grouped_none c.args.singles.now c.args.operator c.args.args.now c.none-groups.result c.none-groups.ensures

pub loop-arg-preserved : goal.loop-arg-preserved
loop-arg-preserved c =
    grouped_more c.args.singles.now c.args.operator c.requires.assoc c.requires.comm c.args.args.now c.loop-arg.arg-index c.arg-item.result c.loop-arg.groups c.put.new.self c.loop-arg-test.true c.arg-item.is c.in_ok-put.ensures c.loop-arg.invariant

pub returns : goal.returns
returns c =
    let sig = c.args.singles.now in
    let f = c.args.operator in
    then (grouped_end sig f c.args.args.now c.loop-arg.arg-index c.loop-arg.groups c.loop-arg-test.false c.loop-arg.invariant) (c.in_ok-list.ensures sig f c.requires.assoc c.requires.comm)
