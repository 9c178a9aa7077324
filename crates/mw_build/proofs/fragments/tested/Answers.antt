use Rattle.std.proofs.Common.{ℕ, Some, Result, MatchResult, subst}
use Rattle.mw_term.specs.declared.raw.Raw.{Raw}
use Rattle.mw_term.specs.Raws.{raw_term}
use Rattle.mw_term.specs.Signatures.{sorted_of}
use Rattle.mw_module.specs.declared.faults.FaultKind.{FaultKind}
use Rattle.mw_module.specs.Words.{texts}
use Rattle.mw_text.specs.Mixfix.{Reads}
use Rattle.mw_build.specs.Fragments.{TextFault, a_test, bad_test}
use Rattle.mw_build.proofs.fragments.tested.Goals as goal

pub returns-in-Ok : goal.returns-in-Ok
returns-in-Ok c = λ sig variables ts grammar is.
    let test = c.args.test.now in
    a_test ts (texts test.term.now) (sorted_of test.sorted) (raw_term c.in-Ok.term) is
    (subst (λ (n : ℕ). Reads sig variables (Some n) (texts test.term.now) (raw_term c.in-Ok.term)) c.number_of-sort.ensures
    (subst (λ (r : Result Raw FaultKind). MatchResult r (λ t. Reads sig variables (Some c.number_of-sort.result) (texts test.term.now) (raw_term t)) (TextFault sig variables (Some c.number_of-sort.result) (texts test.term.now))) c.in-Ok.is
    (c.in_ok-term.ensures sig variables grammar)))

pub returns-in-Err : goal.returns-in-Err
returns-in-Err c = λ sig variables ts grammar is.
    let test = c.args.test.now in
    bad_test ts (texts test.term.now) (sorted_of test.sorted) c.in-Err.kind is
    (subst (λ (n : ℕ). TextFault sig variables (Some n) (texts test.term.now) c.in-Err.kind) c.number_of-sort.ensures
    (subst (λ (r : Result Raw FaultKind). MatchResult r (λ t. Reads sig variables (Some c.number_of-sort.result) (texts test.term.now) (raw_term t)) (TextFault sig variables (Some c.number_of-sort.result) (texts test.term.now))) c.in-Err.is
    (c.in_ok-term.ensures sig variables grammar)))
