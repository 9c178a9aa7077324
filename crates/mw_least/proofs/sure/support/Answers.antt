use Rattle.mw_least.proofs.Tops.{rest_member, first_member, support_by}
use Rattle.mw_least.proofs.sure.support.Goals as goal

pub loop-rest-preserved-then-least-eq0 : goal.loop-rest-preserved-then-least-eq0
loop-rest-preserved-then-least-eq0 c = (
  λ d m. c.loop-rest.invariant.0 d (rest_member c.loop-rest.rest.now c.in-len1-up.len_at_least d m),
  λ h. let r = c.result_on_tops-result.ensures h in
      support_by c.args.order.now.pairs c.args.tops.now c.args.operator.now c.declaration-item.result c.result_on_tops-result.result
      (c.loop-rest.invariant.0 _ (first_member c.loop-rest.rest.now _ _ c.in-len1-up.len_at_least c.declaration-item.is)) r.0 r.1,
)

pub loop-rest-preserved : goal.loop-rest-preserved
loop-rest-preserved c = (λ d m. c.loop-rest.invariant.0 d (rest_member c.loop-rest.rest.now c.in-len1-up.len_at_least d m), c.loop-rest.invariant.1)
