use Rattle.std.proofs.Common.{◌≡◌, ◌∙◌, ◌++◌, ◌∷◌, [], ap}
use Rattle.mw_match.proofs.Pairs.{pairs_of, value_taken, values_taken}
use Rattle.mw_match.proofs.bindings.values_of.Goals as goal

pub loop-binding-preserved : goal.loop-binding-preserved
loop-binding-preserved c =
    let is : pairs_of c.as_slice-binding-items.result.now ≡ c.args.given.now = ap pairs_of c.as_slice-binding-items.ensures ∙ c.given.view_is in
    c.in_ok-push.ensures.items ∙ ap (λ v. c.loop-binding.values.items ++ v ∷ []) c.in_ok-value.ensures ∙ ap (λ vs. vs ++ c.binding-item.result.value ∷ []) c.loop-binding.invariant
    ∙ value_taken c.args.given.now c.as_slice-binding-items.result.now is c.loop-binding.binding-index c.binding-item.result c.loop-binding-test.true c.binding-item.is

pub returns : goal.returns
returns c =
    let is : pairs_of c.as_slice-binding-items.result.now ≡ c.args.given.now = ap pairs_of c.as_slice-binding-items.ensures ∙ c.given.view_is in
    c.loop-binding.invariant ∙ values_taken c.args.given.now c.as_slice-binding-items.result.now is c.loop-binding.binding-index c.loop-binding-test.false
