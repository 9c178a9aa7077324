use Rattle.std.proofs.Common.{[], ◌∷◌, All, Option, MatchOption, subst}
use Rattle.mw_term.specs.Statements.{fragment_of}
use Rattle.mw_module.specs.declared.faults.FaultKind.{FaultKind}
use Rattle.mw_build.specs.Statements.{FitsIn, FirstOversized, terms_of}
use Rattle.mw_build.proofs.Terms.{all_fit_so}
use Rattle.mw_build.proofs.FragmentTerms.{raw_next, fit_next, first_now, first_next}
use Rattle.mw_build.proofs.sizes.fragments_fault.Goals as goal

pub returns-in-Some : goal.returns-in-Some
returns-in-Some c =
    let sig = c.args.facts.now in
    let ts = terms_of (fragment_of c.fragment-item.result ∷ []) in
    c.loop-rest.invariant.first c.in-Some.kind
    (first_now c.loop-rest.rest.now c.fragment-item.result c.in-len1-up.len_at_least c.fragment-item.is sig c.in-Some.kind
    (subst (λ (o : Option FaultKind). MatchOption o (All (FitsIn sig) ts) (λ kind. FirstOversized sig kind ts)) c.in-Some.is c.in_ok-kind.ensures))

pub loop-rest-preserved : goal.loop-rest-preserved
loop-rest-preserved c =
    let sig = c.args.facts.now in
    let rest = c.loop-rest.rest.now in
    let fits = all_fit_so sig (terms_of (fragment_of c.fragment-item.result ∷ [])) c.in_ok-kind.field-0 c.in_ok-kind.ensures c.in_default-2.not-Some in
    record {
      raw = (raw_next rest c.fragment-item.result c.in-len1-up.len_at_least c.fragment-item.is sig c.loop-rest.invariant.raw).1;
      fit = λ h. c.loop-rest.invariant.fit (fit_next rest c.fragment-item.result c.in-len1-up.len_at_least c.fragment-item.is sig fits h);
      first = λ kind h. c.loop-rest.invariant.first kind (first_next rest c.fragment-item.result c.in-len1-up.len_at_least c.fragment-item.is sig kind fits h);
    }
