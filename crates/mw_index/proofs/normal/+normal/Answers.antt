use Rattle.std.proofs.Common.{arith}
use Rattle.mw_pattern.proofs.Lists.{raw_element}
use Rattle.mw_index.proofs.Walking.{normal_more, normal_all}
use Rattle.mw_index.proofs.normal.+normal.Goals as goal

pub all_normal-normal-requires : goal.all_normal-normal-requires
all_normal-normal-requires t c =
    let h = raw_element _ _ _ c.loop-raw-test.true c.raw-item.is in
    omega (arith, h, c.decreases)

pub all_normal-loop-raw-preserved : goal.all_normal-loop-raw-preserved
all_normal-loop-raw-preserved t c = normal_more _ _ _ _ _ _ _ _ c.loop-raw-test.true c.raw-item.is c.in_ok-push.ensures.items c.in_ok-term.ensures c.loop-raw.invariant

pub all_normal-returns : goal.all_normal-returns
all_normal-returns t c = normal_all _ _ _ _ _ c.loop-raw-test.false c.loop-raw.invariant
