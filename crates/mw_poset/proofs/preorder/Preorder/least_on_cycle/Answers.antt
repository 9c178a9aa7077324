use Rattle.std.proofs.Common.{arith, refl}
use Rattle.mw_poset.proofs.Reading.{cycle-within}
use Rattle.mw_poset.proofs.preorder.Preorder.least_on_cycle.Goals as goal

pub loop-k-init : goal.loop-k-init
loop-k-init c = λ S h. let s = cycle-within c.args.self.now.sorts c.args.self.now.pairs c.sorts-k-end.ensures.within S h in let low = s.0 in omega arith

pub returns-then-is_on_cycle-clause-some : goal.returns-then-is_on_cycle-clause-some
returns-then-is_on_cycle-clause-some c = record { on = c.if-is_on_cycle.ensures.0 refl; least = λ T h. let l = c.loop-k.invariant T h in omega arith }

pub returns-clause-none : goal.returns-clause-none
returns-clause-none c = λ S h.
    let s = cycle-within c.args.self.now.sorts c.args.self.now.pairs c.sorts-k-end.ensures.within S h in
    let high = s.1 in
    let l = c.loop-k.invariant S h in
    let n = c.sorts-k-end.ensures.sorts in
    let f = c.loop-k-test.false in
    omega arith
