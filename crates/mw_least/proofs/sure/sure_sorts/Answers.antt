use Rattle.std.proofs.Common.{◌∙◌, List, ap, refl, subst}
use denote.Ref.{Bor}
use Rattle.mw_logic.specs.Signature.{Signature, Operator}
use Rattle.mw_poset.specs.SortOrder.{SortOrder}
use Rattle.mw_least.specs.Sure.{AreResults}
use Rattle.mw_least.proofs.Tops.{results_sure, no_results}
use Rattle.mw_least.proofs.sure.sure_sorts.Goals.{then-are_constants_topped, else-are_constants_topped}
use Rattle.mw_least.proofs.sure.sure_sorts.Goals as goal

pub returns : goal.returns
returns c =
    let sig = c.args.signature.now in
    let tops = c.as_slice-tops.result.now in
    let results = subst (λ ps. AreResults ps tops c.if-are_constants_topped.operators.now c.in_ok-results.results) (ap (λ (s : SortOrder). s.pairs) c.requires.order) c.in_ok-results.ensures in
    elim c.if-are_constants_topped.branch [
      | then-are_constants_topped w ↦
          let operators = ap (λ (b : Bor (List Operator)). b.now) w.operators-is ∙ w.as_slice-operators.ensures ∙ ap (λ (s : Signature). s.operators) c.signature.view_is in
          results_sure sig tops _ _ c.in_ok-partial.ensures (w.if-are_constants_topped.ensures refl) (subst (λ os. AreResults sig.pairs tops os c.in_ok-results.results) operators results)
      | else-are_constants_topped w ↦ no_results sig tops _ _ c.in_ok-partial.ensures (subst (λ os. AreResults sig.pairs tops os c.in_ok-results.results) (ap (λ (b : Bor (List Operator)). b.now) w.operators-is) results)
    ]
