use Rattle.std.proofs.Common.{refl}
use Rattle.mw_poset.proofs.Steps.{cycle_found, cycle_passed, no_cycle_left}
use Rattle.mw_poset.proofs.preorder.Preorder.is_on_cycle.Goals as goal

pub returns-then-le : goal.returns-then-le
returns-then-le c =
    ((λ _. cycle_found c.args.self.now.pairs c.args.sort c.loop-next.next-index c.above-next-items.result.now c.above-next-items.ensures.direct c.loop-next-test.true (c.if-le.ensures.0 refl)), λ _. refl)

pub loop-next-preserved : goal.loop-next-preserved
loop-next-preserved c =
    cycle_passed c.args.self.now.pairs c.args.sort c.loop-next.next-index c.above-next-items.result.now c.above-next-items.ensures.direct c.loop-next-test.true c.loop-next.invariant (λ p. let q = c.if-le.ensures.1 p in cc)

pub returns : goal.returns
returns c =
    ((λ t. absurd (cc)), λ h. absurd (no_cycle_left c.args.self.now.pairs c.args.sort c.loop-next.next-index c.above-next-items.result.now c.above-next-items.ensures.direct c.loop-next-test.false c.loop-next.invariant h))
