use Rattle.mw_least.proofs.Tops.{rest_member}
use Rattle.mw_least.proofs.Homes.{first_home}
use Rattle.mw_least.proofs.closed.home_of.Goals as goal

pub returns-then-is_inside : goal.returns-then-is_inside
returns-then-is_inside c = λ sig pairs all h.
    first_home sig c.args.order.now.pairs c.args.operator.now c.loop-rest.rest.now _ c.result_on-result.result pairs c.in-len1-up.len_at_least (λ d m. all d (c.loop-rest.invariant d m)) (c.result_on-result.ensures h)

pub loop-rest-preserved : goal.loop-rest-preserved
loop-rest-preserved c = λ d m. c.loop-rest.invariant d (rest_member c.loop-rest.rest.now c.in-len1-up.len_at_least d m)
