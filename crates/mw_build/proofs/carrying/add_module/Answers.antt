use Rattle.std.proofs.Common.{◌∙◌, ◌++◌, ◌+◌, map, take, Result, MatchResult, ap, refl, sym, subst}
use Rattle.std.proofs.lemmas.List.{take_all}
use Rattle.mw_logic.specs.Signature.{Signature}
use Rattle.mw_logic.specs.Module.{Statement}
use Rattle.mw_carry.specs.Carriage.{Carriage}
use Rattle.mw_module.specs.declared.faults.Fault.{Fault}
use Rattle.mw_module.specs.declared.faults.FaultKind.{FaultKind}
use Rattle.mw_build.specs.Pairwise.{IsFirstWrong}
use Rattle.mw_build.specs.Imported.{Origin, IsImported, ImportedFault, AreImported, HasFaultAt}
use Rattle.mw_build.proofs.Pairwise.{related_more, wrong_at}
use Rattle.mw_build.proofs.carrying.add_module.Goals as goal

abbrev origin_of : Signature → Statement → Origin
origin_of sig st = record { signature = sig; statement = st }

pub returns-in-Err-clause-fault : goal.returns-in-Err-clause-fault
returns-in-Err-clause-fault c = λ es more found.
    let inv = c.loop-origin.invariant in
    let sig = c.args.other.now.module.signature in
    let facts = c.args.facts.now in
    let origin = origin_of sig c.origin-item.result in
    let told : Fault = record { line = c.args.line; kind = c.in-Err.kind } in
    let of : MatchResult c.in_ok-carried.field-0 (IsImported facts origin) (ImportedFault facts origin) =
    subst (λ (S : Signature). MatchResult c.in_ok-carried.field-0 (IsImported facts (origin_of S c.origin-item.result)) (ImportedFault facts (origin_of S c.origin-item.result))) inv.from c.in_ok-carried.ensures.imported in
    let wrong : ImportedFault facts origin c.in-Err.kind =
    subst (λ (r : Result Statement FaultKind). MatchResult r (IsImported facts origin) (ImportedFault facts origin)) c.in-Err.is of in
    let W = HasFaultAt facts c.args.line told in
    subst (λ ts. IsFirstWrong (IsImported facts) W ((es ++ map (origin_of sig) ts) ++ more)) inv.items
    (wrong_at (IsImported facts) (origin_of sig) es c.own-origin-items.result.now c.loop-origin.origin-index c.origin-item.result c.loop-origin-test.true c.origin-item.is W more c.loop-origin.found.items
    (inv.found es found) (wrong, refl))

pub loop-origin-preserved : goal.loop-origin-preserved
loop-origin-preserved c =
    let inv = c.loop-origin.invariant in
    let sig = c.args.other.now.module.signature in
    let facts = c.args.facts.now in
    let origin = origin_of sig c.origin-item.result in
    let of : MatchResult c.in_ok-carried.field-0 (IsImported facts origin) (ImportedFault facts origin) =
    subst (λ (S : Signature). MatchResult c.in_ok-carried.field-0 (IsImported facts (origin_of S c.origin-item.result)) (ImportedFault facts (origin_of S c.origin-item.result))) inv.from c.in_ok-carried.ensures.imported in
    let right : IsImported facts origin c.in-Ok.carried =
    subst (λ (r : Result Statement FaultKind). MatchResult r (IsImported facts origin) (ImportedFault facts origin)) c.in-Ok.is of in
    record {
      from = ap (λ (k : Carriage). k.from) c.in_ok-carried.ensures.same ∙ inv.from;
      to = ap (λ (k : Carriage). k.to) c.in_ok-carried.ensures.same ∙ inv.to;
      items = inv.items;
      found = λ es found. subst (AreImported facts (es ++ map (origin_of sig) (take (c.loop-origin.origin-index + 1) c.own-origin-items.result.now))) (sym c.in_ok-push-in-Ok.ensures.items)
          (related_more (IsImported facts) (origin_of sig) es c.own-origin-items.result.now c.loop-origin.origin-index c.origin-item.result c.loop-origin-test.true c.origin-item.is
          c.loop-origin.found.items c.in-Ok.carried (inv.found es found) right);
    }

pub returns-clause-added : goal.returns-clause-added
returns-clause-added c = λ es found.
    let inv = c.loop-origin.invariant in
    let sig = c.args.other.now.module.signature in
    let whole = take_all c.loop-origin.origin-index c.own-origin-items.result.now c.loop-origin-test.false in
    subst (λ ts. AreImported c.args.facts.now (es ++ map (origin_of sig) ts) c.loop-origin.found.items) (whole ∙ inv.items) (inv.found es found)
