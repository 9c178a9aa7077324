use Rattle.std.proofs.Common.{◌∙◌, Result, MatchResult, ap, subst}
use Rattle.std.specs.Prelude.{option_map}
use Rattle.std.specs.Global.{Vec}
use denote.Ref.{Bor}
use Rattle.mw_logic.specs.Module.{Statement}
use Rattle.mw_module.specs.declared.faults.Fault.{Fault}
use Rattle.mw_omod.specs.declared.classes.Classes.{Classes}
use Rattle.mw_build.specs.Sides.{all_seen_sides}
use Rattle.mw_build.specs.Statements.{AreReadAs, FirstFault}
use Rattle.mw_build.proofs.modules.read.Goals as goal

pub returns-in-Ok-clause-statements : goal.returns-in-Ok-clause-statements
returns-in-Ok-clause-statements c = λ variables grammar.
    let sig = c.args.reader.facts.now in
    let objects = option_map (λ (K : Bor Classes). K.now) c.args.reader.classes in
    let same = ap all_seen_sides c.as_slice.ensures.value ∙ c.in_ok-written.ensures in
    let found = subst (λ (r : Result (Vec Statement) Fault). MatchResult r
    (λ sts. AreReadAs sig variables objects (all_seen_sides c.as_slice.result.now) sts.items)
    (λ fault. FirstFault sig variables objects (all_seen_sides c.as_slice.result.now) fault)) c.in-Ok.is (c.in_ok-found.ensures variables grammar) in
    subst (λ es. AreReadAs sig variables objects es c.in-Ok.found.items) same found

pub returns-clause-fault : goal.returns-clause-fault
returns-clause-fault c = λ variables grammar.
    let sig = c.args.reader.facts.now in
    let objects = option_map (λ (K : Bor Classes). K.now) c.args.reader.classes in
    let same = ap all_seen_sides c.as_slice.ensures.value ∙ c.in_ok-written.ensures in
    let fault = subst (λ (r : Result (Vec Statement) Fault). MatchResult r
    (λ sts. AreReadAs sig variables objects (all_seen_sides c.as_slice.result.now) sts.items)
    (λ fault. FirstFault sig variables objects (all_seen_sides c.as_slice.result.now) fault)) c.in-Err.is (c.in_ok-found.ensures variables grammar) in
    subst (λ es. FirstFault sig variables objects es c.in-Err.fault) same fault
