use Rattle.std.proofs.Common.{subst}
use Rattle.mw_sorts.specs.Faults.{HasCause}
use Rattle.mw_build.proofs.signature.signature_fault.Goals as goal

pub not_preregular-requires-clause-first : goal.not_preregular-requires-clause-first
not_preregular-requires-clause-first c = rw c.as_slice.ensures.value (subst (HasCause c.args.signature.now) c.in-NotPreregular.is c.requires.cause)
