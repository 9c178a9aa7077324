use Rattle.std.proofs.Common.{subst, sym}
use Rattle.mw_store.specs.Slots.{IsFree}
use Rattle.mw_store.specs.declared.nodes.Kept.{Kept}
use Rattle.mw_store.proofs.Keeping.{spread_more}
use Rattle.mw_store.proofs.nodes.slots_for.Goals as goal

pub loop-index-preserved : goal.loop-index-preserved
loop-index-preserved c =
    spread_more c.args.kept.now c.loop-index.index c.index-kept-index.result c.loop-index.slots.items c.in-Some.at c.in_ok-slots-2.field-0 c.loop-index-test.true c.index-kept-index.is c.loop-index.invariant
    (subst (λ xs. IsFree xs c.index-kept-index.result.hash c.in-Some.at) c.as_slice.ensures.value (subst (λ (k : Kept). IsFree c.as_slice.result.now k.hash c.in-Some.at) (sym c.index-kept-index.is) c.in-Some.ensures)) c.in_ok-slots-2.ensures
