use Rattle.std.proofs.Common.{refl, rules}
use Rattle.mw_reduce.proofs.evaluation.open.Goals as goal

pub returns : goal.returns
returns c = (c.in_ok-push.ensures.items, (_, c.in_ok-push-2.ensures.items, refl, (search rules), refl))
