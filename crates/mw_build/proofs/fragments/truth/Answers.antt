use Rattle.std.proofs.Common.{ℕ, Option, Some, Result, MatchOption, MatchResult, codes, subst}
use Rattle.mw_logic.specs.Signature.{IsSortNamed}
use Rattle.mw_term.specs.declared.raw.Raw.{Raw}
use Rattle.mw_term.specs.Raws.{raw_term}
use Rattle.mw_module.specs.declared.faults.FaultKind.{FaultKind}
use Rattle.mw_module.specs.Words.{texts}
use Rattle.mw_text.specs.Mixfix.{Reads}
use Rattle.mw_build.specs.Fragments.{TextFault, a_truth, bad_truth, no_truths}
use Rattle.mw_build.proofs.Reading.{none_so}
use Rattle.mw_build.proofs.fragments.truth.Goals as goal

pub returns-in_default : goal.returns-in_default
returns-in_default c = λ sig variables grammar not.
    no_truths c.args.tokens.now not (none_so ((S : ℕ) → ¬ IsSortNamed sig S (codes "Bool")) (λ S. IsSortNamed sig S (codes "Bool")) c.in_ok-sort.field-0 (c.in_ok-sort.ensures sig variables grammar) c.in_default.not-Some)

pub returns-in-Ok : goal.returns-in-Ok
returns-in-Ok c = λ sig variables grammar not.
    let B = c.in-Some.sort in
    let named = subst (λ (o : Option ℕ). MatchOption o ((S : ℕ) → ¬ IsSortNamed sig S (codes "Bool")) (λ S. IsSortNamed sig S (codes "Bool"))) c.in-Some.is (c.in_ok-sort.ensures sig variables grammar) in
    a_truth c.args.tokens.now B (raw_term c.in-Ok.term) not named
    (subst (λ (r : Result Raw FaultKind). MatchResult r (λ t. Reads sig variables (Some B) (texts c.args.tokens.now) (raw_term t)) (TextFault sig variables (Some B) (texts c.args.tokens.now))) c.in-Ok.is
    (c.in_ok-term.ensures sig variables grammar))

pub returns-in-Err : goal.returns-in-Err
returns-in-Err c = λ sig variables grammar not.
    let B = c.in-Some.sort in
    let named = subst (λ (o : Option ℕ). MatchOption o ((S : ℕ) → ¬ IsSortNamed sig S (codes "Bool")) (λ S. IsSortNamed sig S (codes "Bool"))) c.in-Some.is (c.in_ok-sort.ensures sig variables grammar) in
    bad_truth c.args.tokens.now B c.in-Err.kind not named
    (subst (λ (r : Result Raw FaultKind). MatchResult r (λ t. Reads sig variables (Some B) (texts c.args.tokens.now) (raw_term t)) (TextFault sig variables (Some B) (texts c.args.tokens.now))) c.in-Err.is
    (c.in_ok-term.ensures sig variables grammar))
