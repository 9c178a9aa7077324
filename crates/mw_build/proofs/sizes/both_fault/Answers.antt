use Rattle.std.proofs.Common.{[], ◌∷◌, Option, MatchOption, subst}
use Rattle.mw_term.specs.Raws.{raw_term}
use Rattle.mw_module.specs.declared.faults.FaultKind.{FaultKind}
use Rattle.mw_build.specs.Statements.{FitsIn, Oversized, here}
use Rattle.mw_build.proofs.Terms.{fits_so, next_told}
use Rattle.mw_build.proofs.sizes.both_fault.Goals as goal

pub returns-in-Some : goal.returns-in-Some
returns-in-Some c =
    let sig = c.args.facts.now in
    let t = raw_term c.args.first.now in
    here t (raw_term c.args.second.now ∷ []) (subst (λ (o : Option FaultKind). MatchOption o (FitsIn sig t) (λ kind. Oversized sig t kind)) c.in-Some.is c.in_ok-kind.ensures)

pub returns : goal.returns
returns c =
    let sig = c.args.facts.now in
    let t = raw_term c.args.first.now in
    next_told sig t (raw_term c.args.second.now) c.term_fault-2.result (fits_so sig t c.in_ok-kind.field-0 c.in_ok-kind.ensures c.in_default.not-Some) c.term_fault-2.ensures
