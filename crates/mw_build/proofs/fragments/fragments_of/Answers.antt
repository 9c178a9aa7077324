use Rattle.std.proofs.Common.{◌∙◌, ◌+◌, [], ◌∷◌, map, take, Result, MatchResult, ap, sym, subst}
use Rattle.std.proofs.lemmas.List.{take_all, append-nil, map-append}
use Rattle.mw_term.specs.declared.statement.Fragment.{Fragment}
use Rattle.mw_term.specs.Statements.{fragment_of}
use Rattle.mw_module.specs.declared.faults.FaultKind.{FaultKind}
use Rattle.mw_module.specs.Conditions.{WrittenFragment, seen_fragment, seen_fragments}
use Rattle.mw_build.specs.Pairwise.{IsFirstWrong}
use Rattle.mw_build.specs.Fragments.{IsFragment, FragmentFault, AreFragments}
use Rattle.mw_build.proofs.Pairwise.{related_more, wrong_at}
use Rattle.mw_build.proofs.fragments.fragments_of.Goals as goal

pub returns-in-Err : goal.returns-in-Err
returns-in-Err c = λ sig variables grammar.
    let w = c.one-item.result in
    let wrong : FragmentFault sig variables (seen_fragment w) c.in-Err.kind =
    subst (λ (r : Result Fragment FaultKind). MatchResult r (λ f. IsFragment sig variables (seen_fragment w) (fragment_of f)) (FragmentFault sig variables (seen_fragment w))) c.in-Err.is
    (c.in_ok-fragment.ensures sig variables grammar) in
    let W = λ (v : WrittenFragment). FragmentFault sig variables v c.in-Err.kind in
    subst (IsFirstWrong (IsFragment sig variables) W) (append-nil (seen_fragments c.args.written.now))
    (wrong_at (IsFragment sig variables) seen_fragment [] c.args.written.now c.loop-one.one-index w c.loop-one-test.true c.one-item.is W [] (map fragment_of c.loop-one.found.items)
    (c.loop-one.invariant sig variables grammar) wrong)

pub loop-one-preserved : goal.loop-one-preserved
loop-one-preserved c = λ sig variables grammar.
    let w = c.one-item.result in
    let right : IsFragment sig variables (seen_fragment w) (fragment_of c.in-Ok.fragment) =
    subst (λ (r : Result Fragment FaultKind). MatchResult r (λ f. IsFragment sig variables (seen_fragment w) (fragment_of f)) (FragmentFault sig variables (seen_fragment w))) c.in-Ok.is
    (c.in_ok-fragment.ensures sig variables grammar) in
    subst (AreFragments sig variables (seen_fragments (take (c.loop-one.one-index + 1) c.args.written.now)))
    (sym (ap (map fragment_of) c.in_ok-push-in-Ok.ensures.items ∙ map-append fragment_of c.loop-one.found.items (c.in-Ok.fragment ∷ [])))
    (related_more (IsFragment sig variables) seen_fragment [] c.args.written.now c.loop-one.one-index w c.loop-one-test.true c.one-item.is (map fragment_of c.loop-one.found.items)
    (fragment_of c.in-Ok.fragment) (c.loop-one.invariant sig variables grammar) right)

pub returns : goal.returns
returns c = λ sig variables grammar.
    let whole = take_all c.loop-one.one-index c.args.written.now c.loop-one-test.false in
    subst (λ ws. AreFragments sig variables (seen_fragments ws) (map fragment_of c.loop-one.found.items)) whole (c.loop-one.invariant sig variables grammar)
