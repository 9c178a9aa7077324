use Rattle.mw_least.proofs.Tops.{rest_member, first_member}
use Rattle.mw_least.proofs.Homes.{takes_by}
use Rattle.mw_least.proofs.closed.result_on.Goals as goal

pub loop-rest-preserved-then-least-eq0 : goal.loop-rest-preserved-then-least-eq0
loop-rest-preserved-then-least-eq0 c = (
  λ d m. c.loop-rest.invariant.0 d (rest_member c.loop-rest.rest.now c.in-len1-up.len_at_least d m),
  λ h. let r = c.declared_on-result.ensures h in
      takes_by c.args.order.now.pairs c.args.operator.now c.declaration-item.result c.args.sort c.declared_on-result.result
      (c.loop-rest.invariant.0 _ (first_member c.loop-rest.rest.now _ _ c.in-len1-up.len_at_least c.declaration-item.is)) r.0 r.1,
)

pub loop-rest-preserved : goal.loop-rest-preserved
loop-rest-preserved c = (λ d m. c.loop-rest.invariant.0 d (rest_member c.loop-rest.rest.now c.in-len1-up.len_at_least d m), c.loop-rest.invariant.1)
