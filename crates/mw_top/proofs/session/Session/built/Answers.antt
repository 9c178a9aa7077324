use Rattle.std.proofs.Common.{List, subst}
use Rattle.mw_module.specs.Causes.{HasCause}
use Rattle.mw_module.specs.Units.{seen_unit}
use Rattle.mw_build.specs.Modules.{Accepted, IsRefused}
use Rattle.mw_top.specs.Sources.{Loaded}
use Rattle.mw_top.proofs.session.Session.built.Goals as goal

pub returns-in-Err-Fault : goal.returns-in-Err-Fault
returns-in-Err-Fault c =
    let u = seen_unit c.args.unit.now in
    subst (λ (l : Loaded). IsRefused l.units l.modules u c.args.name c.in-Err-Fault.fault) c.self.view_is
    (subst (λ (ms : List Accepted). IsRefused c.self.inside.units ms u c.args.name c.in-Err-Fault.fault) c.as_slice.ensures.value
    (subst (HasCause (IsRefused c.self.inside.units c.as_slice.result.now u c.args.name)) c.in-Err-Fault.field-0-is c.in-Err-Fault.ensures.fault))
