use Rattle.std.proofs.Common.{subst}
use Rattle.mw_build.specs.Configurations.{Finds, IsConfiguration}
use Rattle.mw_build.proofs.Configurations.{configuration_of}
use Rattle.mw_build.proofs.classes.classes_in.Goals as goal

pub returns-in_default : goal.returns-in_default
returns-in_default c = λ K are.
    let sig = c.args.signature.now in
    let none = subst (Finds (IsConfiguration sig)) c.in_default.is c.in_ok-sorts.ensures in
    let (x, is) = configuration_of sig K are in
    none x is
