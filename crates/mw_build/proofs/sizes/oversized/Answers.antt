use Rattle.std.proofs.Common.{subst}
use Rattle.mw_canon.specs.Causes.{HasCause}
use Rattle.mw_build.specs.Statements.{deep, large}
use Rattle.mw_build.proofs.sizes.oversized.Goals as goal

pub returns-in-Deep : goal.returns-in-Deep
returns-in-Deep c = λ sig t h. deep (subst (HasCause sig t) c.in-Deep.is h)

pub returns-in-Nat : goal.returns-in-Nat
returns-in-Nat c = λ sig t h. let k = subst (HasCause sig t) c.in-Nat.is h in large k.1 k.0
