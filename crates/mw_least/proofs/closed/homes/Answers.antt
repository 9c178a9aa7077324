use Rattle.std.proofs.Common.{subst}
use Rattle.mw_logic.specs.Signature.{Member}
use Rattle.mw_least.proofs.closed.homes.Goals as goal

pub homes_among-requires-clause-closed : goal.homes_among-requires-clause-closed
homes_among-requires-clause-closed c = λ d m. c.in_ok-closed.ensures d (subst (λ xs. Member d xs) c.as_slice-2.ensures.value m)
