use Rattle.std.proofs.Common.{refl}
use Rattle.mw_check.proofs.Chosen.{few_follow}
use Rattle.mw_check.proofs.parts.follow.Goals as goal

pub returns : goal.returns
returns c = (λ e. c.loop-rest.invariant.1 (few_follow c.loop-rest.rest.now c.in_default.len_below), λ h. refl)
