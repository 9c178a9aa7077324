use Rattle.std.proofs.Common.{◌∷◌, [], arith, length-append}
use Rattle.mw_chart.proofs.Sets.{set_zero}
use Rattle.mw_chart.proofs.bits.reserve.Goals as goal

pub loop-preserved : goal.loop-preserved
loop-preserved c = rw c.in_ok-push.ensures.items (record {
  long = rw (length-append c.loop.set.items (0 ∷ [])) (omega (arith, c.loop.invariant.long));
  same = λ y. (
    λ h. (c.loop.invariant.same y).0 ((set_zero c.loop.set.items y).0 h),
    λ h. (set_zero c.loop.set.items y).1 ((c.loop.invariant.same y).1 h),
  );
})
