use Rattle.std.proofs.Common.{IfOk, Result, MatchResult, sym, subst}
use Rattle.mw_logic.specs.Module as logic
use Rattle.mw_term.specs.declared.raw.Raw.{Raw}
use Rattle.mw_term.specs.Raws.{raw_term}
use Rattle.mw_term.specs.Statements.{fragment_of}
use Rattle.mw_module.specs.declared.faults.FaultKind.{FaultKind}
use Rattle.mw_module.specs.Conditions.{seen_fragment}
use Rattle.mw_module.specs.Words.{texts}
use Rattle.mw_text.specs.Readings.{ReadsPair}
use Rattle.mw_build.specs.Fragments.{PairFault, IsFragment, an_equation, a_match, FragmentFault, bad_equation, bad_match}
use Rattle.mw_build.proofs.fragments.fragment.Goals as goal

pub returns-in-Ok : goal.returns-in-Ok
returns-in-Ok c = λ sig variables grammar.
    let a = c.in-Match.pattern.now in
    let b = c.in-Match.term.now in
    subst (λ w. IsFragment sig variables (seen_fragment w) (logic.matches (raw_term c.in-Ok.pattern) (raw_term c.in-Ok.term))) (sym c.in-Match.is)
    (a_match a b (raw_term c.in-Ok.pattern) (raw_term c.in-Ok.term)
    (subst (λ (r : Result (Raw × Raw) FaultKind). MatchResult r (λ p. ReadsPair sig variables (texts a) (texts b) (raw_term p.0, raw_term p.1)) (PairFault sig variables (texts a) (texts b))) c.in-Ok.is
    (c.in_ok-pattern-in-Match.ensures sig variables grammar)))

pub returns-in-Err : goal.returns-in-Err
returns-in-Err c = λ sig variables grammar.
    let a = c.in-Match.pattern.now in
    let b = c.in-Match.term.now in
    subst (λ w. FragmentFault sig variables (seen_fragment w) c.in-Err.kind) (sym c.in-Match.is)
    (bad_match a b c.in-Err.kind
    (subst (λ (r : Result (Raw × Raw) FaultKind). MatchResult r (λ p. ReadsPair sig variables (texts a) (texts b) (raw_term p.0, raw_term p.1)) (PairFault sig variables (texts a) (texts b))) c.in-Err.is
    (c.in_ok-pattern-in-Match.ensures sig variables grammar)))

pub returns-in-Ok-2 : goal.returns-in-Ok-2
returns-in-Ok-2 c = λ sig variables grammar.
    let a = c.in-Equal.left.now in
    let b = c.in-Equal.right.now in
    subst (λ w. IsFragment sig variables (seen_fragment w) (logic.equal (raw_term c.in-Ok-2.left) (raw_term c.in-Ok-2.right))) (sym c.in-Equal.is)
    (an_equation a b (raw_term c.in-Ok-2.left) (raw_term c.in-Ok-2.right)
    (subst (λ (r : Result (Raw × Raw) FaultKind). MatchResult r (λ p. ReadsPair sig variables (texts a) (texts b) (raw_term p.0, raw_term p.1)) (PairFault sig variables (texts a) (texts b))) c.in-Ok-2.is
    (c.in_ok-left-in-Equal.ensures sig variables grammar)))

pub returns-in-Err-2 : goal.returns-in-Err-2
returns-in-Err-2 c = λ sig variables grammar.
    let a = c.in-Equal.left.now in
    let b = c.in-Equal.right.now in
    subst (λ w. FragmentFault sig variables (seen_fragment w) c.in-Err-2.kind) (sym c.in-Equal.is)
    (bad_equation a b c.in-Err-2.kind
    (subst (λ (r : Result (Raw × Raw) FaultKind). MatchResult r (λ p. ReadsPair sig variables (texts a) (texts b) (raw_term p.0, raw_term p.1)) (PairFault sig variables (texts a) (texts b))) c.in-Err-2.is
    (c.in_ok-left-in-Equal.ensures sig variables grammar)))

pub returns-in-Other : goal.returns-in-Other
returns-in-Other c = λ sig variables grammar.
    subst (λ w. IfOk c.other.result (λ r. MatchResult r (λ f. IsFragment sig variables (seen_fragment w) (fragment_of f)) (FragmentFault sig variables (seen_fragment w)))) (sym c.in-Other.is)
    (c.other.ensures sig variables grammar)
