use Rattle.std.proofs.Common.{sym, subst, arith}
use Rattle.mw_sorts.specs.States.{IsStart, ways}
use Rattle.mw_sorts.proofs.Growing.{numbers-more, start-is}
use Rattle.mw_sorts.proofs.diagram.all_alive.Goals as goal

pub loop-number-preserved : goal.loop-number-preserved
loop-number-preserved c = numbers-more c.loop-number.number c.loop-number.all.items c.push.new.self.items c.loop-number.invariant c.in_ok-push.ensures.items

pub returns : goal.returns
returns c =
    let high = c.loop-number-test.false in
    let low = c.loop-number.auto.number-end in
    let m = c.number_of_ways-count.ensures in
    subst (IsStart (ways c.args.operator.now)) (sym c.in_ok-new.ensures.ok)
    (start-is (ways c.args.operator.now) c.loop-number.number c.in_ok-number.field-0 c.new-states.result c.number.new.self c.loop-number.all.items (omega arith) c.loop-number.invariant c.new-states.ensures c.in_ok-number.ensures.number
    c.in_ok-number.ensures.only)
